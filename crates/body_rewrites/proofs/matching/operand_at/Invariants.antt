-- None so far is the hole.
use Rattle.std.proofs.Common.{◌≡◌, drop}
use Rattle.body_rewrites.specs.Matching.{operand_at}
use Rattle.body_rewrites.proofs.matching.operand_at.Given as goal

abbrev pub invariant-loop-i : goal.invariant-loop-i
invariant-loop-i l = operand_at l.parts l.starts l.end l.index ≡ operand_at (drop l.i l.parts) (drop l.i l.starts) l.at l.index
