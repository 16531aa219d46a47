use Rattle.peephole_graphs.proofs.terms.LowerIds.{next_large, lowered_more, lowered_all}
use Rattle.peephole_graphs.proofs.span.lower.Goals as goal

pub overflow_sub-id : goal.overflow_sub-id
overflow_sub-id c = next_large c.args.by c.args.ids.now c.loop-id.ids c.loop-id.id-index (record { 0 = 0 }) c.requires c.loop-id-test.true c.loop-id.invariant

pub loop-id-preserved : goal.loop-id-preserved
loop-id-preserved c = lowered_more c.args.by c.args.ids.now c.loop-id.ids c.loop-id.id-index (record { 0 = 0 }) c.loop-id-test.true c.loop-id.invariant

pub returns : goal.returns
returns c = lowered_all c.args.by c.args.ids.now c.loop-id.ids c.loop-id.id-index c.loop-id-test.false c.loop-id.invariant
