use Rattle.wasm_equivalence.proofs.validation.ProgressLemmas.{valid_bodies}
use Rattle.wasm_equivalence.proofs.validity.valid_bodies_run.Goals as goal

pub returns : goal.returns
returns c = valid_bodies
