use Rattle.wasm_equivalence.proofs.validation.ProgressLemmas.{laps_pass}
use Rattle.wasm_equivalence.proofs.validity.laps_are_passes.Goals as goal

pub returns : goal.returns
returns c = laps_pass
