-- The number of the next one, which isn't past the one that is looked for.
use Rattle.std.proofs.Common.{◌≡◌, ◌≤◌}
use Rattle.body_changes.specs.Drawing.{variable_rank}
use Rattle.body_changes.proofs.variables.place_of.Given as goal

abbrev pub invariant-loop-i : goal.invariant-loop-i
invariant-loop-i l = record { is : l.before ≡ variable_rank l.types l.fn.wanted l.i; small : l.before ≤ l.i; below : l.before ≤ l.fn.number }
