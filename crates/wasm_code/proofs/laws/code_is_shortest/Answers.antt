use Rattle.wasm_code.proofs.CodeLemmas as lemmas
use Rattle.wasm_code.proofs.laws.code_is_shortest.Goals as goal

pub returns : goal.returns
returns c i text s = lemmas.code_least i text s
