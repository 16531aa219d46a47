use Rattle.wasm_code.proofs.CodeLemmas as lemmas
use Rattle.wasm_code.proofs.laws.code_spells.Goals as goal

pub returns : goal.returns
returns c i is = lemmas.code_spells i is
