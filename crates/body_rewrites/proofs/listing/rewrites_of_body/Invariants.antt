-- Those of the operators so far.
use Rattle.body_rewrites.specs.Places.{context_of}
use Rattle.body_rewrites.specs.Rewrites.{asked_below}
use Rattle.body_rewrites.specs.Listing.{AreThose, IsWantedBy}
use Rattle.body_rewrites.proofs.listing.rewrites_of_body.Given as goal

abbrev pub invariant-loop-at : goal.invariant-loop-at
invariant-loop-at l = AreThose (IsWantedBy (context_of l.body) l.body.operators.now l.rules l.wanted) (asked_below l.at) l.list.items
