-- Those with the numbers so far.
use Rattle.std.proofs.Common.{◌≡◌, ℕ, Some, length}
use Rattle.std.specs.Prelude.{slice_get}
use Rattle.rewrite_rules.specs.declared.rule.Rule.{Rule}
use Rattle.rewrite_rules.specs.Rule.{rule_number}
use Rattle.rewrite_rules.proofs.names.all_rules.Given as goal

abbrev pub invariant-loop-number : goal.invariant-loop-number
invariant-loop-number l = record {
  count : length l.rules.items ≡ l.number;
  each : (n : ℕ) (rule : Rule) → slice_get l.rules.items n ≡ Some rule → rule_number rule ≡ n;
}
