use Rattle.std.proofs.Common.{arith}
use Rattle.wasm_module.proofs.SizeLemmas.{one_byte, one_byte_more}
use Rattle.wasm_module.proofs.sizes.number_size.Goals as goal

pub overflow_add-size : goal.overflow_add-size
overflow_add-size c =
    let spelled = c.shortest_is_a_spelling.ensures.unsigned 32 c.args.n (omega arith) (omega arith) (omega arith) in
    omega (arith, spelled.short, c.loop-rest.invariant)

pub loop-rest-preserved : goal.loop-rest-preserved
loop-rest-preserved c =
    let more = one_byte_more c.shortest_is_a_spelling.ensures.unsigned c.shortest_is_least.ensures.unsigned c.loop-rest.rest c.loop-rest-test.true
    (omega arith) in
    omega (arith, more, c.loop-rest.invariant)

pub returns-clause-size : goal.returns-clause-size
returns-clause-size c =
    let last = one_byte c.shortest_is_a_spelling.ensures.unsigned c.loop-rest.rest c.loop-rest-test.false in omega (arith, last, c.loop-rest.invariant)

pub returns-clause-few : goal.returns-clause-few
returns-clause-few c =
    let spelled = c.shortest_is_a_spelling.ensures.unsigned 32 c.args.n (omega arith) (omega arith) (omega arith) in
    let last = one_byte c.shortest_is_a_spelling.ensures.unsigned c.loop-rest.rest c.loop-rest-test.false in
    omega (arith, spelled.short, last, c.loop-rest.invariant)
