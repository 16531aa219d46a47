-- None of the rules so far has the number.
use Rattle.std.proofs.Common.{◌≡◌, take}
use Rattle.std.specs.Prelude.{Contains}
use Rattle.rewrite_rules.specs.declared.rule.Rule.{Rule}
use Rattle.rewrite_rules.specs.Rule.{rule_number}
use Rattle.body_rewrites.proofs.listing.has_number.Given as goal

abbrev pub invariant-loop-rule : goal.invariant-loop-rule
invariant-loop-rule l = (rule : Rule) → Contains (take l.rule-index l.rules) rule → rule_number rule ≡ l.number → ⊥
