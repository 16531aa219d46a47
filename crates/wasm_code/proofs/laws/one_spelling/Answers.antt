use Rattle.wasm_code.proofs.AnyLemmas.{one_any}
use Rattle.wasm_code.proofs.OperatorLemmas as lemmas
use Rattle.wasm_code.proofs.laws.one_spelling.Goals as goal

pub returns-clause-known : goal.returns-clause-known
returns-clause-known c a b x y m n p q e = lemmas.one_spelling a b x y m n p q e

pub returns-clause-any : goal.returns-clause-any
returns-clause-any c a b x y m n p q e = one_any a b x y m n p q e
