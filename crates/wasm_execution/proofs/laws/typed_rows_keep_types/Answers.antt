use Rattle.wasm_execution.proofs.LawLemmas.{rows_end_typed}
use Rattle.wasm_execution.proofs.laws.typed_rows_keep_types.Goals as goal

pub returns : goal.returns
returns c = rows_end_typed
