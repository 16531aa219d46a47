use Rattle.wasm_sections.proofs.FindLemmas.{one_place}
use Rattle.wasm_sections.proofs.laws.one_place.Goals as goal

pub returns : goal.returns
returns c = one_place
