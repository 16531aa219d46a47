-- None of the rules so far is open.
use Rattle.std.proofs.Common.{take}
use Rattle.std.specs.Prelude.{Contains}
use Rattle.rewrite_rules.specs.declared.rule.Rule.{Rule}
use Rattle.body_rewrites.specs.Counting.{IsOpenBy}
use Rattle.body_rewrites.proofs.choice.has_open.Given as goal

abbrev pub invariant-loop-rule : goal.invariant-loop-rule
invariant-loop-rule l = (rule : Rule) → Contains (take l.rule-index l.rules) rule → IsOpenBy l.counts l.growth rule → ⊥
