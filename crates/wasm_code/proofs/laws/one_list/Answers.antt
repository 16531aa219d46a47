use Rattle.wasm_code.proofs.BodyLemmas as lemmas
use Rattle.wasm_code.proofs.laws.one_list.Goals as goal

pub returns : goal.returns
returns c xs ys start text p q = lemmas.same_all xs ys start text p q
