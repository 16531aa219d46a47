-- Those so far are.
use Rattle.body_rewrites.proofs.AllAlikeLemmas.{AreAlikeSo}
use Rattle.body_rewrites.proofs.matching.are_alike.Given as goal

abbrev pub invariant-loop-i : goal.invariant-loop-i
invariant-loop-i l = AreAlikeSo l.operators l.parts l.starts l.end l.numbers l.i l.at
