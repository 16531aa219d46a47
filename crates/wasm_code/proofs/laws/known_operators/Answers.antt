use Rattle.wasm_code.proofs.AnyLemmas as lemmas
use Rattle.wasm_code.proofs.laws.known_operators.Goals as goal

pub returns-clause-any : goal.returns-clause-any
returns-clause-any c text x s = lemmas.known_any text x s

pub returns-clause-known : goal.returns-clause-known
returns-clause-known c text x s known = lemmas.any_known text x known s
