-- The parts so far, of each of which the start is kept.
use Rattle.std.proofs.Common.{◌≡◌}
use Rattle.arrayvec.specs.ArrayVec.{array_vec_len}
use Rattle.body_rewrites.proofs.CutLemmas.{AreCutSo}
use Rattle.body_rewrites.proofs.cutting.cuts.Given as goal

abbrev pub invariant-loop-i : goal.invariant-loop-i
invariant-loop-i l = AreCutSo l.operators l.trees l.parts l.starts.items l.end l.i l.at × (array_vec_len l.starts ≡ l.i)
