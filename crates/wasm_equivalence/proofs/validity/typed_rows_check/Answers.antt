use Rattle.wasm_equivalence.proofs.validation.RowChecks.{row_types_stay, typed_pushes, pushes_on}
use Rattle.wasm_equivalence.proofs.validity.typed_rows_check.Goals as goal

pub returns-clause-push : goal.returns-clause-push
returns-clause-push c = typed_pushes

pub returns-clause-on : goal.returns-clause-on
returns-clause-on c = pushes_on

pub returns-clause-stay : goal.returns-clause-stay
returns-clause-stay c = row_types_stay
