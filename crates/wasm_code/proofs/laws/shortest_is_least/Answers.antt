use Rattle.wasm_code.proofs.CodeNumbers.{shortest_least, shortest_signed_least}
use Rattle.wasm_code.proofs.laws.shortest_is_least.Goals as goal

pub returns-clause-unsigned : goal.returns-clause-unsigned
returns-clause-unsigned c bits n text most s = shortest_least bits n text most s

pub returns-clause-signed : goal.returns-clause-signed
returns-clause-signed c bits z text most s = shortest_signed_least bits z text most s
