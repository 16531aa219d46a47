use Rattle.std.proofs.Common.{arith}
use Rattle.std.proofs.lemmas.Grind.{pow_more}
use Rattle.wasm_code.proofs.NumberLemmas.{done_below, value_step, value_fits, scale_fits}
use Rattle.wasm_code.proofs.number.value_of.Goals as goal

pub overflow_mul-sum : goal.overflow_mul-sum
overflow_mul-sum c = omega (arith, value_fits _ _ _ _ c.requires c.loop-b-test.true c.loop-b.invariant.sum)

pub overflow_add-sum : goal.overflow_add-sum
overflow_add-sum c = omega (arith, value_fits _ _ _ _ c.requires c.loop-b-test.true c.loop-b.invariant.sum)

pub overflow_mul-scale : goal.overflow_mul-scale
overflow_mul-scale c = omega (arith, scale_fits _ _ _ c.requires c.loop-b-test.true c.loop-b.invariant.scale)

pub loop-b-preserved : goal.loop-b-preserved
loop-b-preserved c = record {
  sum = value_step _ _ _ _ _ c.loop-b-test.true c.loop-b.invariant.sum;
  scale = omega (arith, c.loop-b.invariant.scale, pow_more 128 c.loop-b.b-index);
}

pub returns-clause-below : goal.returns-clause-below
returns-clause-below c = done_below _ _ _ _ c.loop-b-test.false c.loop-b.auto.b-index-end c.loop-b.invariant.sum c.loop-b.invariant.scale
