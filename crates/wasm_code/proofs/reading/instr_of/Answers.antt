use Rattle.std.proofs.Common.{arith}
use Rattle.wasm_code.specs.laws.GrammarLemmas.{bytes_small}
use Rattle.wasm_code.proofs.reading.instr_of.Goals as goal

pub instr-requires-in-Shuffle-clause-in_range : goal.instr-requires-in-Shuffle-clause-in_range
instr-requires-in-Shuffle-clause-in_range c =
    bytes_small 16 c.args.bytes.now c.in_ok-b-in-Shuffle.b c.in_ok-b-in-Shuffle.rest.now c.in_ok-b-in-Shuffle.ensures
    (λ i. omega (arith, c.type_inv.bytes i))
