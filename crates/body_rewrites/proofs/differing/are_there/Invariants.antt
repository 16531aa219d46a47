-- Those so far are.
use Rattle.body_rewrites.proofs.DifferingLemmas.{AreThereSo}
use Rattle.body_rewrites.proofs.differing.are_there.Given as goal

abbrev pub invariant-loop-i : goal.invariant-loop-i
invariant-loop-i l = AreThereSo l.operators l.start l.end l.pieces l.i l.at
