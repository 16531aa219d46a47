-- There are few places.
use Rattle.std.proofs.Common.{length, ap, arith}
use Rattle.body_rewrites.proofs.CountingLemmas.{few_alone, less_room}
use Rattle.body_rewrites.proofs.counts.count_alone.Goals as goal

pub count_slots-requires : goal.count_slots-requires
count_slots-requires c =
    let few = few_alone c.in-Some.tree in
    let same = ap length c.in-Some-slots.ensures.some in
    less_room _ 65536 c.args.counts.now (omega (arith, few, same)) c.requires
