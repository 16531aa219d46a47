-- How many of the rows so far there are.
use Rattle.std.proofs.Common.{◌≡◌, ◌≤◌}
use Rattle.body_changes.specs.Others.{others_below}
use Rattle.body_changes.proofs.others.count_others.Given as goal

abbrev pub invariant-loop-row : goal.invariant-loop-row
invariant-loop-row l = record { is : l.count ≡ others_below l.asked l.row; small : l.count ≤ l.row }
