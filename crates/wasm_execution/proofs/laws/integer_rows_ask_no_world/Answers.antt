use Rattle.wasm_execution.proofs.AloneLemmas.{ask_no_world}
use Rattle.wasm_execution.proofs.laws.integer_rows_ask_no_world.Goals as goal

pub returns : goal.returns
returns c = ask_no_world
