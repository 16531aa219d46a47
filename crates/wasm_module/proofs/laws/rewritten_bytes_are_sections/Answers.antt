use Rattle.std.proofs.Common.{arith}
use Rattle.wasm_module.proofs.GrownLemmas.{module_again}
use Rattle.wasm_module.proofs.laws.rewritten_bytes_are_sections.Goals as goal

pub returns : goal.returns
returns c bytes info layout n contents more new m r =
    module_again bytes info layout n contents more new (λ k lt. c.shortest_is_a_spelling.ensures.unsigned 32 k (omega arith) (omega arith) lt) m r
