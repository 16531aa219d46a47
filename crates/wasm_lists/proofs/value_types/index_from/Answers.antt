use Rattle.std.proofs.Common.{arith}
use Rattle.wasm_lists.proofs.ValueLemmas.{number_shrinks}
use Rattle.wasm_lists.proofs.value_types.index_from.Goals as goal

pub overflow_sub-bytes : goal.overflow_sub-bytes
overflow_sub-bytes c =
    let less = number_shrinks c.args.bytes.now c.in_ok-index.rest.now c.in_ok-index.index c.in_ok-index.ensures in omega arith

pub overflow_sub-bytes-2 : goal.overflow_sub-bytes-2
overflow_sub-bytes-2 c =
    let less = number_shrinks c.args.bytes.now c.in_ok-index.rest.now c.in_ok-index.index c.in_ok-index.ensures in omega arith

pub bounds-bytes-bytes : goal.bounds-bytes-bytes
bounds-bytes-bytes c =
    let less = number_shrinks c.args.bytes.now c.in_ok-index.rest.now c.in_ok-index.index c.in_ok-index.ensures in omega arith
