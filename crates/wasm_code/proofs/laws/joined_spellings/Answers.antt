use Rattle.wasm_code.proofs.JoinLemmas as lemmas
use Rattle.wasm_code.proofs.laws.joined_spellings.Goals as goal

pub returns : goal.returns
returns c start xs s = lemmas.all_joined start xs s
