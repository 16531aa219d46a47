-- What the lines so far make.
use Rattle.std.proofs.Common.{[], take}
use Rattle.body_rewrites.specs.Asking.{rewrites_of}
use Rattle.body_rewrites.specs.Listing.{AddsFound}
use Rattle.body_rewrites.specs.Places.{context_of}
use Rattle.body_rewrites.proofs.listing.rewrites_at.Given as goal

abbrev pub invariant-loop-asked : goal.invariant-loop-asked
invariant-loop-asked l =
    AddsFound (context_of l.fn.body) l.fn.body.operators.now (rewrites_of l.fn.at (take l.asked-index l.lines)) [] l.list.items
