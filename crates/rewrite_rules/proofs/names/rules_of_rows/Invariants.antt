-- The numbers of the rules of the rows so far, and as many names as stand there.
use Rattle.std.proofs.Common.{◌≡◌, ℕ, ◌<◌, ◌≤◌, length, take}
use Rattle.std.specs.Prelude.{slice_get}
use Rattle.rewrite_rules.specs.Names.{given, begins, rule_of}
use Rattle.rewrite_rules.proofs.names.rules_of_rows.Given as goal

abbrev pub invariant-loop-index : goal.invariant-loop-index
invariant-loop-index l = record {
  counted : l.count ≡ length (given (take l.index begins));
  few : l.count ≤ l.index;
  long : length l.rules.items ≡ l.index;
  are : (k : ℕ) → k < l.index → slice_get l.rules.items k ≡ rule_of k;
}
