-- Those of the lines so far.
use Rattle.std.proofs.Common.{take}
use Rattle.body_rewrites.specs.Asking.{rewrites_of}
use Rattle.body_rewrites.specs.Listing.{AreThose, HasGrowth}
use Rattle.body_rewrites.specs.Places.{context_of}
use Rattle.body_rewrites.proofs.counts.rewrites_here.Given as goal

abbrev pub invariant-loop-asked : goal.invariant-loop-asked
invariant-loop-asked l =
    AreThose (HasGrowth (context_of l.fn.body) l.fn.body.operators.now l.fn.growth) (rewrites_of l.fn.here.at (take l.asked-index l.lines)) l.list.items
