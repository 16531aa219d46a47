use Rattle.wasm_execution.specs.SameLemmas.{stays_same}
use Rattle.wasm_execution.proofs.laws.following_code_keeps_runs_the_same.Goals as goal

pub returns : goal.returns
returns c = stays_same
