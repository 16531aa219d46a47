use Rattle.wasm_code.specs.laws.NumberExact.{unsigned_exact, signed_exact}
use Rattle.wasm_code.specs.laws.ValTypeLemmas.{val_type_exact}
use Rattle.wasm_code.proofs.OperatorLemmas.{operator_exact}
use Rattle.wasm_code.proofs.AnyLemmas.{any_exact}
use Rattle.wasm_code.proofs.laws.parts_are_read.Goals as goal

pub returns-clause-unsigned : goal.returns-clause-unsigned
returns-clause-unsigned c bits = unsigned_exact bits

pub returns-clause-signed : goal.returns-clause-signed
returns-clause-signed c bits = signed_exact bits

pub returns-clause-val_types : goal.returns-clause-val_types
returns-clause-val_types c = val_type_exact

pub returns-clause-operators : goal.returns-clause-operators
returns-clause-operators c = operator_exact

pub returns-clause-any : goal.returns-clause-any
returns-clause-any c = any_exact
