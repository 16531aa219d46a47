use Rattle.wasm_code.proofs.CodeNumbers.{shortest_spells, shortest_signed_spells}
use Rattle.wasm_code.proofs.laws.shortest_is_a_spelling.Goals as goal

pub returns-clause-unsigned : goal.returns-clause-unsigned
returns-clause-unsigned c bits n some most lt = shortest_spells bits n some most lt

pub returns-clause-signed : goal.returns-clause-signed
returns-clause-signed c bits z some most low high = shortest_signed_spells bits z some most low high
