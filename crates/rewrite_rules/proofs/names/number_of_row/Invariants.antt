-- As many as stand in the lines so far.
use Rattle.std.proofs.Common.{◌≡◌, ◌≤◌, length, take}
use Rattle.rewrite_rules.specs.Names.{begins, given}
use Rattle.rewrite_rules.proofs.names.number_of_row.Given as goal

abbrev pub invariant-loop-index : goal.invariant-loop-index
invariant-loop-index l = record {
  counted : l.count ≡ length (given (take l.index begins));
  few : l.count ≤ l.index;
}
