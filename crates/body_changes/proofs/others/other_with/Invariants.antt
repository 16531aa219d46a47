-- The number of the next one, which isn't past the one that is looked for.
use Rattle.std.proofs.Common.{◌≡◌, ◌≤◌}
use Rattle.body_changes.specs.Others.{others_below}
use Rattle.body_changes.proofs.others.other_with.Given as goal

abbrev pub invariant-loop-row : goal.invariant-loop-row
invariant-loop-row l = record { is : l.before ≡ others_below l.asked l.row; small : l.before ≤ l.row; below : l.before ≤ l.fn.number }
