-- The rows of the code, as the integer rows that they stand for, and what a list of types is as one type or none (this project).
use Rattle.std.specs.Prelude.{◌≡◌, ℕ, length, Bool, false, List, [], ◌∷◌, Option, Some, None, option_map, option_and_then, slice_get}
use Rattle.wasm_code.specs.declared.table.Opcode.{Opcode}
use Rattle.wasm_code.specs.declared.table.Opcode.TheVariants.{Byte, Fc, Fd}
use Rattle.wasm_code.specs.Instruction.{Instruction}
use Rattle.wasm_code.specs.Table.{row_at, opcode_in}
use Rattle.wasm_types.specs.Module.{Module, module_of}
use Rattle.wasm_types.specs.declared.types.PrimitiveTypeInfo.{PrimitiveTypeInfo}
use Rattle.wasm_types.specs.declared.types.TableType.{TableType}
use Rattle.wasm_types.specs.declared.types.TypeInfo.{TypeInfo}
use Rattle.wasm_types.specs.declared.types.TypeInfo.TheVariants.{Func, Other}
use Rattle.wasm_execution.specs.declared.operand.OperandColumn.{OperandColumn}
use Rattle.wasm_execution.specs.OtherRow.{element_type, Named, Operand, names_in, operands_in, column_in}
use Rattle.wasm_execution.specs.declared.row.Variable.{Variable as CodeVariable}
use Rattle.wasm_execution.specs.declared.row.Variable.TheVariants as variable
use Rattle.wasm_execution.specs.declared.row.Row.{Row}
use Rattle.wasm_execution.specs.declared.row.Row.TheVariants as row
use Rattle.wasm_execution.specs.Values.{Context, context_in, Variable, local, global, same_type, same_types, accept}
use Rattle.wasm_execution.specs.Integer.{select_operator}
use Rattle.wasm_execution.specs.IntegerRow.{IntegerRow, constant, operation, get, set, tee, discard, select, nop, other, if_typed}
use Rattle.wasm_execution.specs.IntegerRow.{operand_count, row_types, integer_row}
use Rattle.wasm_execution.specs.Operation.{operator_of}

-- the variable that the code's variant names
abbrev pub variable_of : CodeVariable → Variable
variable_of (variable.Local n) = local n
variable_of (variable.Global n) = global n

-- none for another instruction
abbrev pub row_of : Row → Option IntegerRow
row_of (row.Constant t n) = Some (constant t n)
row_of (row.Operation f) = Some (operation (operator_of f))
row_of (row.TypedSelect t) = Some (operation (select_operator t))
row_of (row.Get x) = Some (get (variable_of x))
row_of (row.Set x) = Some (set (variable_of x))
row_of (row.Tee x) = Some (tee (variable_of x))
row_of row.Drop = Some discard
row_of row.Select = Some select
row_of row.Nop = Some nop
row_of row.Other = None

-- the opcode, where it is one byte
abbrev pub byte_of : Option Opcode → Option ℕ
byte_of (Some (Byte byte)) = Some byte
byte_of (Some (Fc n)) = None
byte_of (Some (Fd n)) = None
byte_of None = None

-- an instruction's opcode, where that is one byte; none behind FC and FD, nor where the table has no such row
abbrev pub instruction_byte : Instruction → Option ℕ
instruction_byte i = byte_of (opcode_in (row_at i.row))

-- one type, or none at all
abbrev pub list_of : Option PrimitiveTypeInfo → List PrimitiveTypeInfo
list_of (Some t) = t ∷ []
list_of None = []

-- ---- what single rows give, by the type of their variable, where they have one (as `row_types` says)

-- it takes nothing, and gives a value of the variable's type
abbrev pub get_types : Option PrimitiveTypeInfo → List PrimitiveTypeInfo → Option (List PrimitiveTypeInfo)
get_types o [] = option_and_then (λ u. Some (u ∷ [])) o
get_types o ts = None

-- it takes a value of the variable's type, and gives nothing
abbrev pub set_types : Option PrimitiveTypeInfo → List PrimitiveTypeInfo → Option (List PrimitiveTypeInfo)
set_types o (t ∷ []) = option_and_then (λ u. if_typed (same_type t u) []) o
set_types o ts = None

-- it takes a value of the variable's type, and gives it
abbrev pub tee_types : Option PrimitiveTypeInfo → List PrimitiveTypeInfo → Option (List PrimitiveTypeInfo)
tee_types o (t ∷ []) = option_and_then (λ u. if_typed (same_type t u) (t ∷ [])) o
tee_types o ts = None

-- without variables
abbrev pub no_variables : Context
no_variables = record { info = module_of []; locals = [] }

-- no type is left of one operand of any type; another number of operands isn't taken
abbrev pub drop_types : List PrimitiveTypeInfo → Option (List PrimitiveTypeInfo)
drop_types ts = row_types no_variables discard ts

-- the type of the first two operands, where they are of one numeric or vector type and the condition is an i32
abbrev pub select_types : List PrimitiveTypeInfo → Option (List PrimitiveTypeInfo)
select_types ts = row_types no_variables select ts

-- ---- what other rows give

-- one type, or none; not of several results
abbrev pub at_most_one : List PrimitiveTypeInfo → Option (Option PrimitiveTypeInfo)
at_most_one [] = Some None
at_most_one (t ∷ []) = Some (Some t)
at_most_one ts = None

-- the element type of the table with the index; none where there is no such table
abbrev pub element_in : List TableType → ℕ → Option PrimitiveTypeInfo
element_in tables i = option_map (λ x. element_type x.element_type) (slice_get tables i)

-- the operands are of the parameters' types; not where the function's type isn't known
abbrev pub accept_parameters : Option TypeInfo → List PrimitiveTypeInfo → Bool
accept_parameters None ts = false
accept_parameters (Some (Func t)) ts = same_types t.params ts
accept_parameters (Some Other) ts = false

-- the operands may have these types; not where they aren't known
abbrev pub accept_some : Option (List Operand) → List PrimitiveTypeInfo → Bool
accept_some None ts = false
accept_some (Some os) ts = accept os ts

-- the operands may have these types
abbrev pub accept_in : Named → OperandColumn → List PrimitiveTypeInfo → Bool
accept_in n column ts = accept_some (operands_in n column) ts

-- what an instruction gives, one type or none
abbrev pub instruction_types : Context → Instruction → List PrimitiveTypeInfo → Option (Option PrimitiveTypeInfo)
instruction_types context i ts = option_and_then at_most_one (row_types context (integer_row i) ts)

-- how many operands these are; 0 where they aren't known
abbrev pub operand_count_in : Option (List Operand) → ℕ
operand_count_in None = 0
operand_count_in (Some os) = length os

-- how many operands an instruction takes, by its operand column
abbrev pub column_count : Module → Instruction → ℕ
column_count info i = operand_count_in (operands_in (names_in info i.imm) (column_in (row_at i.row)))

-- how many operands a row takes, of another instruction by its operand column
abbrev pub count_by : Module → IntegerRow → ℕ
count_by info (other i) = column_count info i
count_by info row = operand_count info row

-- how many operands an instruction takes, of a module with what it names
abbrev pub instruction_count : Module → Instruction → ℕ
instruction_count info i = count_by info (integer_row i)

-- On any other number of operands the instruction gives nothing that has types.
abbrev pub HasOperandCount : Module → Instruction → (count : ℕ) → Type 0
HasOperandCount info i count =
    (locals operands : List PrimitiveTypeInfo) (gives : Option PrimitiveTypeInfo) → instruction_types (context_in info locals) i operands ≡ Some gives →
    length operands ≡ count
