use Rattle.wasm_sections.proofs.OneModule as lemmas
use Rattle.wasm_sections.proofs.laws.one_module.Goals as goal

pub returns : goal.returns
returns c bytes xs ys p q = lemmas.one_module bytes xs ys p q
