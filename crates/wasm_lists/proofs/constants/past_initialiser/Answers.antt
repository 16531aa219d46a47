use Rattle.std.proofs.Common.{◌∙◌, sym}
use Rattle.wasm_lists.proofs.ConstantLemmas.{shrinks, goes_on, ends, fails}
use Rattle.wasm_lists.proofs.constants.past_initialiser.Goals as goal

pub loop-ended-smaller : goal.loop-ended-smaller
loop-ended-smaller c = shrinks c.parts_are_read.ensures.operators c.loop-ended.rest.now c.in-Ok.ended c.in-Ok.behind.now c.in-Ok.ensures

pub loop-ended-preserved : goal.loop-ended-preserved
loop-ended-preserved c =
    goes_on c.parts_are_read.ensures.operators c.loop-ended.rest.now c.in-Ok.ended c.in-Ok.behind.now c.in-Ok.ensures c.if-ended.false
    ∙ c.loop-ended.invariant

pub returns-then-ended : goal.returns-then-ended
returns-then-ended c =
    sym c.loop-ended.invariant ∙ ends c.loop-ended.rest.now c.in-Ok.ended c.in-Ok.behind.now c.in-Ok.ensures c.if-ended.true

pub returns-in-Err : goal.returns-in-Err
returns-in-Err c = sym c.loop-ended.invariant ∙ fails c.loop-ended.rest.now c.in-Err.cause c.in-Err.ensures
