-- What an instruction is to the machine, by its opcode: an integer row, or another instruction; and the types that it takes and gives
-- (WebAssembly Core Specification 3.0, Binary Format, Instructions, and Validation, Instructions; which rows these are: this project).
use Rattle.std.specs.Prelude.{ℕ, ◌-◌, ◌==◌, ◌&&◌, nat_lt, Bool, true, false, if◌then◌else◌, List, [], ◌∷◌, ◌++◌, length, slice_get, Option}
use Rattle.std.specs.Prelude.{Some, None, option_map, option_and_then}
use Rattle.std.specs.Int.{w8, w16, w32, w64, cast_unsigned}
use Rattle.wasm_code.specs.declared.immediate.Imm.{Imm}
use Rattle.wasm_code.specs.declared.immediate.Imm.TheVariants as imm
use Rattle.wasm_code.specs.declared.immediate.ValType.{ValType}
use Rattle.wasm_code.specs.declared.immediate.ValType.TheVariants as val
use Rattle.wasm_code.specs.declared.table.Opcode.{Opcode}
use Rattle.wasm_code.specs.declared.table.Opcode.TheVariants.{Byte, Fc, Fd}
use Rattle.wasm_code.specs.Instruction.{Instruction}
use Rattle.wasm_code.specs.Table.{row_at, opcode_in}
use Rattle.wasm_types.specs.Module.{Module}
use Rattle.wasm_types.specs.declared.types.PrimitiveTypeInfo.{PrimitiveTypeInfo}
use Rattle.wasm_types.specs.declared.types.PrimitiveTypeInfo.TheVariants as primitive
use Rattle.wasm_execution.specs.declared.integer.IntegerType.TheVariants as integer
use Rattle.wasm_execution.specs.OtherRow.{OtherType, names_in, other_type}
use Rattle.wasm_execution.specs.Values.{IntegerType, type_of, same_type, same_types, other_types, Context, Variable, local, global}
use Rattle.wasm_execution.specs.Integer.{IntegerOperator, binary, unary, eqz, compare, wrap, extend_i32_s, extend_i32_u, extend_low_s}
use Rattle.wasm_execution.specs.Integer.{select_operator, add, sub, mul, div_s, div_u, rem_s, rem_u, and_, or_, xor_, shl, shr_s, shr_u}
use Rattle.wasm_execution.specs.Integer.{rotl, rotr, clz, ctz, popcnt, eq, ne, lt_s, lt_u, gt_s, gt_u, le_s, le_u, ge_s, ge_u}

-- an instruction to the machine; `discard` is `drop`, and `other` every instruction that is none of these
pub data IntegerRow : Type 0 where
  constant : IntegerType → ℕ → IntegerRow
  operation : IntegerOperator → IntegerRow
  get set tee : Variable → IntegerRow
  discard select nop : IntegerRow
  other : Instruction → IntegerRow

-- ---- operators by their opcodes

-- eqz and the comparisons
abbrev pub tests : IntegerType → List IntegerOperator
tests t =
    eqz t ∷ compare t eq ∷ compare t ne
    ∷ compare t lt_s ∷ compare t lt_u ∷ compare t gt_s ∷ compare t gt_u
    ∷ compare t le_s ∷ compare t le_u ∷ compare t ge_s ∷ compare t ge_u ∷ []

-- clz to rotr
abbrev pub arithmetic : IntegerType → List IntegerOperator
arithmetic t =
    unary t clz ∷ unary t ctz ∷ unary t popcnt
    ∷ binary t add ∷ binary t sub ∷ binary t mul ∷ binary t div_s ∷ binary t div_u ∷ binary t rem_s ∷ binary t rem_u
    ∷ binary t and_ ∷ binary t or_ ∷ binary t xor_ ∷ binary t shl ∷ binary t shr_s ∷ binary t shr_u ∷ binary t rotl ∷ binary t rotr ∷ []

-- the extensions of the low 8, 16 and 32 bits within one type, `C0` to `C4`
abbrev pub extensions : List IntegerOperator
extensions =
    extend_low_s integer.I32 w8 ∷ extend_low_s integer.I32 w16
    ∷ extend_low_s integer.I64 w8 ∷ extend_low_s integer.I64 w16 ∷ extend_low_s integer.I64 w32 ∷ []

-- the operator of an opcode, where the operators have consecutive opcodes
abbrev pub from_byte : ℕ → List IntegerOperator → ℕ → Option IntegerOperator
from_byte first operators byte = if nat_lt byte first then None else slice_get operators (byte - first)

-- the first operator that is there, of two
abbrev pub or_else : Option IntegerOperator → Option IntegerOperator → Option IntegerOperator
or_else (Some f) o = Some f
or_else None o = o

-- the operator of an opcode: 45 to 5A, 67 to 8A, A7, AC and AD, C0 to C4
abbrev pub bare_operator : ℕ → Option IntegerOperator
bare_operator byte =
    or_else (from_byte 0x45 (tests integer.I32 ++ tests integer.I64) byte)
    (or_else (from_byte 0x67 (arithmetic integer.I32 ++ arithmetic integer.I64) byte)
    (or_else (from_byte 0xa7 (wrap ∷ []) byte)
    (or_else (from_byte 0xac (extend_i32_s ∷ extend_i32_u ∷ []) byte)
    (from_byte 0xc0 extensions byte))))

-- the row of an operator, where one was found
abbrev pub operator_row : Option IntegerOperator → Option IntegerRow
operator_row o = option_map operation o

-- ---- rows by their opcodes

-- without an immediate: the operators, and 01, 1A and 1B
abbrev pub bare_row : ℕ → Option IntegerRow
bare_row byte =
    if byte == 0x01 then Some nop else (if byte == 0x1a then Some discard else (if byte == 0x1b then Some select else
    operator_row (bare_operator byte)))

-- 20 to 24
abbrev pub variable_row : (byte index : ℕ) → Option IntegerRow
variable_row byte index =
    if byte == 0x20 then Some (get (local index)) else (if byte == 0x21 then Some (set (local index)) else
    (if byte == 0x22 then Some (tee (local index)) else (if byte == 0x23 then Some (get (global index)) else
    (if byte == 0x24 then Some (set (global index)) else None))))

-- the select whose type is written
abbrev pub typed_select : ValType → Option IntegerRow
typed_select val.I32 = Some (operation (select_operator integer.I32))
typed_select val.I64 = Some (operation (select_operator integer.I64))
typed_select _ = None

-- an opcode of one byte, with an immediate
abbrev pub byte_row : ℕ → Imm → Option IntegerRow
byte_row byte imm.Nothing = bare_row byte
byte_row byte (imm.Index i) = variable_row byte i
byte_row byte (imm.I32 z) = if byte == 0x41 then Some (constant integer.I32 (cast_unsigned w32 z)) else None
byte_row byte (imm.I64 z) = if byte == 0x42 then Some (constant integer.I64 (cast_unsigned w64 z)) else None
byte_row byte (imm.Val t) = if byte == 0x1c then typed_select t else None
byte_row byte _ = None

-- the integer row of an opcode and its immediate, where it is one
abbrev pub opcode_row : Option Opcode → Imm → Option IntegerRow
opcode_row (Some (Byte byte)) i = byte_row byte i
opcode_row (Some (Fc n)) i = None
opcode_row (Some (Fd n)) i = None
opcode_row None i = None

-- the integer row that was found, or else the instruction as another one
abbrev pub row_or_other : Instruction → Option IntegerRow → IntegerRow
row_or_other i (Some row) = row
row_or_other i None = other i

-- what an instruction is to the machine
unfoldable pub integer_row : Instruction → IntegerRow
integer_row i = row_or_other i (opcode_row (opcode_in (row_at i.row)) i.imm)

-- it is no integer row, and does as the world says
abbrev pub is_other : IntegerRow → Bool
is_other (other i) = true
is_other row = false

-- ---- what a row takes and gives

-- how many operands an instruction of these types takes; 0 where its types aren't known
abbrev pub typed_operand_count : Option OtherType → ℕ
typed_operand_count (Some t) = length t.operands
typed_operand_count None = 0

-- how many operands a row takes from the stack; of a call and the like, as the module says of what it names
abbrev pub operand_count : Module → IntegerRow → ℕ
operand_count info (operation f) = length f.operands
operand_count info (set x) = 1
operand_count info (tee x) = 1
operand_count info discard = 1
operand_count info select = 3
operand_count info (other i) = typed_operand_count (other_type (names_in info i.imm) i)
operand_count info row = 0

-- what is given where the operands are of the row's types, and else nothing
abbrev pub if_typed : {A : Type 0} → Bool → A → Option A
if_typed b a = if b then Some a else None

-- the type of a variable, where it is there
abbrev pub variable_type : Context → Variable → Option PrimitiveTypeInfo
variable_type context (local i) = slice_get context.locals i
variable_type context (global i) = slice_get context.info.globals i

-- the select whose type isn't written takes numbers and vectors
abbrev pub is_numeric : PrimitiveTypeInfo → Bool
is_numeric primitive.FuncRef = false
is_numeric primitive.ExternRef = false
is_numeric primitive.Empty = false
is_numeric _ = true

-- what the row gives on operands of these types; none where these are not the row's operand types
abbrev pub row_types : Context → IntegerRow → List PrimitiveTypeInfo → Option (List PrimitiveTypeInfo)
row_types context (constant t n) [] = Some (type_of t ∷ [])
row_types context (operation f) ts = if_typed (same_types ts f.operands) (type_of f.result ∷ [])
row_types context (get x) [] = option_and_then (λ u. Some (u ∷ [])) (variable_type context x)
row_types context (set x) (t ∷ []) = option_and_then (λ u. if_typed (same_type t u) []) (variable_type context x)
row_types context (tee x) (t ∷ []) = option_and_then (λ u. if_typed (same_type t u) (t ∷ [])) (variable_type context x)
row_types context discard (t ∷ []) = Some []
row_types context select (t ∷ u ∷ c ∷ []) = if_typed (is_numeric t && same_types (u ∷ c ∷ []) (t ∷ primitive.I32 ∷ [])) (t ∷ [])
row_types context nop [] = Some []
row_types context (other i) ts = other_types context.info i ts
row_types context row ts = None
