use Rattle.wasm_execution.specs.ColumnLemmas.{types_are_the_result_column}
use Rattle.wasm_execution.proofs.laws.row_types_are_the_result_column.Goals as goal

pub returns : goal.returns
returns c = types_are_the_result_column
