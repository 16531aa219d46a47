use Rattle.wasm_execution.proofs.LawLemmas.{sound_worlds}
use Rattle.wasm_execution.proofs.laws.sound_worlds_exist.Goals as goal

pub returns : goal.returns
returns c = sound_worlds
