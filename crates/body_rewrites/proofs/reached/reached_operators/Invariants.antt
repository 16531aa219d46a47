-- Those of the operators so far.
use Rattle.body_rewrites.specs.Places.{context_of}
use Rattle.body_rewrites.specs.Reached.{AreReachedBelow}
use Rattle.body_rewrites.proofs.reached.reached_operators.Given as goal

abbrev pub invariant-loop-at : goal.invariant-loop-at
invariant-loop-at l = AreReachedBelow (context_of l.body) l.body.operators.now l.rules l.wanted l.at l.marks.items
