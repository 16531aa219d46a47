-- Those of the operators so far are passed over.
use Rattle.body_rewrites.specs.Listing.{HasGrowth}
use Rattle.body_rewrites.specs.Places.{context_of}
use Rattle.body_rewrites.proofs.CountingBounds.{Passed}
use Rattle.body_rewrites.proofs.counts.find_rewrite.Given as goal

abbrev pub invariant-loop-at : goal.invariant-loop-at
invariant-loop-at l = Passed l.fn.lines (HasGrowth (context_of l.body) l.body.operators.now l.fn.growth) l.at l.left l.number
