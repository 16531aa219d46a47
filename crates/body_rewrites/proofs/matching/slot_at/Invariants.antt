-- None so far is the slot.
use Rattle.std.proofs.Common.{◌≡◌, drop}
use Rattle.body_rewrites.specs.Matching.{slot_at}
use Rattle.body_rewrites.proofs.matching.slot_at.Given as goal

abbrev pub invariant-loop-i : goal.invariant-loop-i
invariant-loop-i l = slot_at l.operators l.parts l.starts l.index ≡ slot_at l.operators (drop l.i l.parts) (drop l.i l.starts) l.index
