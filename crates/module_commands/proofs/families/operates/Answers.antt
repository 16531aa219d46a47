-- By the opcodes of operators.
use Rattle.std.proofs.Common.{◌∙◌}
use Rattle.wasm_execution.specs.IntegerRow.{bare_operator}
use Rattle.wasm_execution.specs.Operation.{operator_of}
use Rattle.module_commands.proofs.FamiliesLemmas.{some_alike}
use Rattle.module_commands.proofs.families.operates.Goals as goal

pub returns : goal.returns
returns c = c.is_some.ensures ∙ some_alike operator_of c.from_byte.result (bare_operator c.args.byte) c.from_byte.ensures.operator
