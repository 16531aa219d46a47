use Rattle.wasm_sections.proofs.OneFault as lemmas
use Rattle.wasm_sections.proofs.laws.one_fault.Goals as goal

pub returns : goal.returns
returns c bytes one other at place p q n k = lemmas.one_fault bytes one other at place p q n k
