use Rattle.wasm_equivalence.proofs.validation.ValidLemmas.{replaced_valid}
use Rattle.wasm_equivalence.proofs.validity.replaced_code_stays_valid.Goals as goal

pub returns : goal.returns
returns c = replaced_valid
