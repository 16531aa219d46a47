-- Those of the growths so far.
use Rattle.std.proofs.Common.{take}
use Rattle.body_rewrites.specs.Listing.{AreThose}
use Rattle.body_rewrites.specs.Counting.{HasOpenBy}
use Rattle.body_rewrites.proofs.choice.open_growths.Given as goal

abbrev pub invariant-loop-growth : goal.invariant-loop-growth
invariant-loop-growth l = AreThose (HasOpenBy l.counts l.rules) (take l.growth-index l.wanted) l.list.items
