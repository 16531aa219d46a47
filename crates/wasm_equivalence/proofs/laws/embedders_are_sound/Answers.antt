use Rattle.wasm_equivalence.proofs.hosts.EmbedderLemmas.{embedders}
use Rattle.wasm_equivalence.proofs.laws.embedders_are_sound.Goals as goal

pub returns : goal.returns
returns c = embedders c.sound_worlds_exist.ensures
