-- The names of the changes (this project).
use Rattle.std.specs.Prelude.{ℕ, List, codes}
use Rattle.body_changes.specs.declared.change.Change.{Change}
use Rattle.body_changes.specs.declared.change.Change.TheVariants as change

abbrev pub change_name : Change → List ℕ
change_name change.Constant = codes "constant"
change_name change.Operator = codes "operator"
change_name change.Local = codes "local"
change_name change.Draw = codes "draw"
change_name change.Copy = codes "copy"
change_name change.FirstOperand = codes "first_operand"
change_name change.LastOperand = codes "last_operand"
change_name change.ExchangeOperands = codes "exchange_operands"
change_name change.Delete = codes "delete"
change_name change.Double = codes "double"
change_name change.ExchangeStatements = codes "exchange_statements"
change_name change.Global = codes "global"
change_name change.Call = codes "call"
change_name change.MemoryArgument = codes "memory_argument"
