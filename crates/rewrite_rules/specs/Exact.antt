-- Operators that are exact rows of the instruction table: what they take and give, and their value, by the row and its lane
-- (WebAssembly Core Specification 3.0, Validation, Instructions, and Execution, Numerics; which rows are exact: this project).
use Rattle.std.specs.Prelude.{ℕ, ◌&&◌, if◌then◌else◌, List, [], ◌∷◌, Option, Some, None}
use Rattle.wasm_code.specs.Instruction.{Instruction, fits_row}
use Rattle.wasm_code.specs.Table.{row_at}
use Rattle.wasm_code.specs.declared.immediate.Imm.{Imm}
use Rattle.wasm_code.specs.declared.immediate.Imm.TheVariants as imm
use Rattle.wasm_code.specs.declared.immediate.ValType.{ValType}
use Rattle.wasm_code.specs.declared.immediate.ValType.TheVariants as value
use Rattle.wasm_code.specs.declared.table.ResultKind.{ResultKind}
use Rattle.wasm_code.specs.declared.table.ResultKind.TheVariants as by
use Rattle.wasm_code.specs.declared.table.Row.{Row}
use Rattle.wasm_types.specs.declared.types.PrimitiveTypeInfo.{PrimitiveTypeInfo}
use Rattle.wasm_types.specs.declared.types.PrimitiveTypeInfo.TheVariants.{I32, I64, F32, F64, V128}
use Rattle.wasm_execution.specs.declared.operand.OperandKind.TheVariants as kind
use Rattle.wasm_execution.specs.declared.operand.OperandColumn.{OperandColumn}
use Rattle.wasm_execution.specs.declared.operand.OperandColumn.TheVariants as column
use Rattle.wasm_execution.specs.OtherRow.{column_by}
use Rattle.wasm_execution.specs.ExactRow.{ExactRow, computes, exact_row}
use Rattle.wasm_execution.specs.IntegerRow.{is_other, integer_row}
use Rattle.wasm_execution.specs.Values.{of_bits}

-- what an operator takes, what it gives, and its value on the numbers of its operands
pub record ExactOperator : Type 0 where
  pub operands : List PrimitiveTypeInfo
  pub result : PrimitiveTypeInfo
  pub value : List ℕ → ℕ

-- the types of a column, where the table writes each
abbrev pub written_operands : OperandColumn → Option (List PrimitiveTypeInfo)
written_operands column.Zero = Some []
written_operands (column.One (kind.Of t)) = Some (t ∷ [])
written_operands (column.Two (kind.Of t) (kind.Of u)) = Some (t ∷ u ∷ [])
written_operands (column.Three (kind.Of t) (kind.Of u) (kind.Of v)) = Some (t ∷ u ∷ v ∷ [])
written_operands c = None

-- the type of a number or of a vector
abbrev pub number_type : ValType → Option PrimitiveTypeInfo
number_type value.I32 = Some I32
number_type value.I64 = Some I64
number_type value.F32 = Some F32
number_type value.F64 = Some F64
number_type value.V128 = Some V128
number_type t = None

-- the result, where the table writes it
abbrev pub written_result : ResultKind → Option PrimitiveTypeInfo
written_result (by.Fixed t) = number_type t
written_result r = None

abbrev pub operands_by : Option Row → Option (List PrimitiveTypeInfo)
operands_by None = None
operands_by (Some row) = written_operands (column_by row.info.operands row.opcode)

abbrev pub result_by : Option Row → Option PrimitiveTypeInfo
result_by None = None
result_by (Some row) = written_result row.info.result

-- with the value that is computed, cut to the bits of the result's type
abbrev pub with_value : Option ExactRow → Option (List PrimitiveTypeInfo) → Option PrimitiveTypeInfo → Option ExactOperator
with_value (Some (computes f)) (Some ts) (Some t) = Some (record { operands = ts; result = t; value = λ ns. of_bits t (f ns) })
with_value row ts t = None

-- the operator that an instruction is, where it is an exact row that computes: its row takes its immediate, and the machine doesn't say itself what it does
unfoldable pub exact_operator : Instruction → Option ExactOperator
exact_operator i =
    if fits_row (row_at i.row) i.imm && is_other (integer_row i)
    then with_value (exact_row i) (operands_by (row_at i.row)) (result_by (row_at i.row)) else None

-- the immediate with that lane, where there is one
abbrev pub lane_immediate : Option ℕ → Imm
lane_immediate None = imm.Nothing
lane_immediate (Some lane) = imm.Lane lane

-- the instruction of a row with that lane, where it has one
abbrev pub exact_code : (row : ℕ) → (lane : Option ℕ) → Instruction
exact_code row lane = record { row = row; imm = lane_immediate lane }

-- the operator that it is
abbrev pub exact_at : (row : ℕ) → (lane : Option ℕ) → Option ExactOperator
exact_at row lane = exact_operator (exact_code row lane)
