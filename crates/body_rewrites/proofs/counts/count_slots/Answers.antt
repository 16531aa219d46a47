-- One after another.
use Rattle.body_rewrites.proofs.CountingLemmas.{no_slots_yet, one_slot_more, room_for_slot}
use Rattle.body_rewrites.proofs.counts.count_slots.Goals as goal

pub loop-slot-init : goal.loop-slot-init
loop-slot-init c = no_slots_yet c.args.slots.now c.args.counts.now

pub count_slot-requires : goal.count_slot-requires
count_slot-requires c =
    room_for_slot c.args.slots.now c.loop-slot.slot-index c.loop-slot-test.true c.args.counts.now c.loop-slot.counts c.requires c.loop-slot.invariant

pub loop-slot-preserved : goal.loop-slot-preserved
loop-slot-preserved c =
    one_slot_more c.args.slots.now c.loop-slot.slot-index _ c.loop-slot-test.true c.args.counts.now c.loop-slot.counts c.count_slot.new.counts
    c.loop-slot.invariant c.count_slot.ensures
