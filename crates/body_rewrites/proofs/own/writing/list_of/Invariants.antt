-- Those so far.
use Rattle.std.proofs.Common.{◌≡◌, ◌≤◌, take}
use Rattle.arrayvec.specs.ArrayVec.{array_vec_len}
use Rattle.body_rewrites.proofs.own.writing.list_of.Given as goal

abbrev pub invariant-loop-i : goal.invariant-loop-i
invariant-loop-i l = (l.list.items ≡ take l.i l.pieces) × (array_vec_len l.list ≤ l.i)
