-- Those of the lines so far.
use Rattle.std.proofs.Common.{◌≡◌, ◌++◌, drop}
use Rattle.body_rewrites.specs.Counting.{alone_slots}
use Rattle.body_rewrites.proofs.counter.alone_slots.Given as goal

abbrev pub invariant-loop-i : goal.invariant-loop-i
invariant-loop-i l = alone_slots l.tree l.lines ≡ l.list.items ++ alone_slots l.tree (drop l.i l.lines)
