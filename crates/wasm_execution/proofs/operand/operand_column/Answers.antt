use Rattle.std.proofs.Common.{◌∙◌}
use Rattle.wasm_execution.proofs.OperandLemmas.{column_is}
use Rattle.wasm_execution.proofs.operand.operand_column.Goals as goal

pub returns : goal.returns
returns c = c.by_spans.ensures ∙ column_is c.args.row
