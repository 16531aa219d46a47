use Rattle.wasm_execution.proofs.AloneLemmas.{free_alone}
use Rattle.wasm_execution.proofs.laws.requested_globals_free_nothing.Goals as goal

pub returns : goal.returns
returns c = free_alone
