use Rattle.wasm_execution.proofs.LawLemmas.{exact_worlds}
use Rattle.wasm_execution.proofs.laws.exact_worlds_exist.Goals as goal

pub returns : goal.returns
returns c = exact_worlds
