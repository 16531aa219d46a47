use Rattle.wasm_equivalence.proofs.control.StandardLemmas.{standard_sound}
use Rattle.wasm_equivalence.proofs.laws.standard_control_is_sound.Goals as goal

pub returns : goal.returns
returns c = standard_sound
