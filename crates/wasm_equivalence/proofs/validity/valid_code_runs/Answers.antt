use Rattle.wasm_equivalence.proofs.validation.RunChecks.{valid_code}
use Rattle.wasm_equivalence.proofs.validity.valid_code_runs.Goals as goal

pub returns : goal.returns
returns c = valid_code
