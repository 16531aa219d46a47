-- Those so far, at most one for each step.
use Rattle.std.proofs.Common.{◌≡◌, ◌≤◌, ◌++◌, drop}
use Rattle.arrayvec.specs.ArrayVec.{array_vec_len}
use Rattle.rewrite_rules.specs.Holes.{holes_for}
use Rattle.rewrite_rules.proofs.holes.holes_of.Given as goal

abbrev pub invariant-loop-i : goal.invariant-loop-i
invariant-loop-i l = (holes_for l.side ≡ l.list.items ++ holes_for (drop l.i l.side)) × (array_vec_len l.list ≤ l.i)
