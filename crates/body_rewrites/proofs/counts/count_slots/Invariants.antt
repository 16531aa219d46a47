-- One more at each place so far.
use Rattle.std.proofs.Common.{take}
use Rattle.body_rewrites.specs.Counting.{AddsCounts, slots_in}
use Rattle.body_rewrites.proofs.counts.count_slots.Given as goal

abbrev pub invariant-loop-slot : goal.invariant-loop-slot
invariant-loop-slot l = AddsCounts (slots_in (take l.slot-index l.slots)) l.initial.counts l.counts
