-- Those of the operators so far.
use Rattle.body_rewrites.specs.Places.{context_of}
use Rattle.body_rewrites.specs.Counting.{AreCounts}
use Rattle.body_rewrites.proofs.counts.count_body.Given as goal

abbrev pub invariant-loop-at : goal.invariant-loop-at
invariant-loop-at l = AreCounts (context_of l.body) l.body.operators.now l.at l.counts
