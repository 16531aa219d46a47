-- Code that stands together: its types, by those of the values that it finds on top, and what it may do besides leaving values
-- (WebAssembly Core Specification 3.0, Validation, Instructions, Instruction Sequences; Execution, Instructions).
use Rattle.std.specs.Prelude.{◌≡◌, ℕ, ◌-◌, ◌||◌, nat_le, Bool, true, false, if◌then◌else◌, List, [], ◌∷◌, ◌++◌, length, take, drop, Option}
use Rattle.std.specs.Prelude.{Some, None, option_map, option_and_then}
use Rattle.wasm_code.specs.Instruction.{Instruction}
use Rattle.wasm_code.specs.declared.immediate.Imm.{Imm}
use Rattle.wasm_code.specs.declared.immediate.Imm.TheVariants as imm
use Rattle.wasm_types.specs.declared.types.PrimitiveTypeInfo.{PrimitiveTypeInfo}
use Rattle.wasm_execution.specs.declared.operation.Binary.{Binary}
use Rattle.wasm_execution.specs.declared.operation.Binary.TheVariants.{DivS, DivU, RemS, RemU}
use Rattle.wasm_execution.specs.declared.operation.Operation.{Operation}
use Rattle.wasm_execution.specs.declared.operation.Operation.TheVariants as operation
use Rattle.wasm_execution.specs.Opcode.{operation_of}
use Rattle.wasm_execution.specs.OtherRow.{changes, may_trap}
use Rattle.wasm_execution.specs.Row.{instruction_byte}
use Rattle.wasm_execution.specs.Values.{Context}
use Rattle.wasm_execution.specs.IntegerRow.{IntegerRow, set, tee, other, operand_count, row_types, integer_row, is_other}

-- ---- types

-- the types behind an instruction, which finds its operands on top of these, the last one on top
abbrev pub types_behind : Context → Instruction → List PrimitiveTypeInfo → Option (List PrimitiveTypeInfo)
types_behind context i ts =
    let below = length ts - operand_count context.info (integer_row i) in
    if nat_le (operand_count context.info (integer_row i)) (length ts)
    then option_map (λ us. take below ts ++ us) (row_types context (integer_row i) (drop below ts)) else None

-- the types behind instructions that stand together
abbrev pub types_after : Context → List Instruction → List PrimitiveTypeInfo → Option (List PrimitiveTypeInfo)
types_after context [] ts = Some ts
types_after context (i ∷ code) ts = option_and_then (types_after context code) (types_behind context i ts)

-- The code needs nothing from what stands before it, and leaves one value of the type.
abbrev pub Leaves : Context → List Instruction → PrimitiveTypeInfo → Type 0
Leaves context code t = types_after context code [] ≡ Some (t ∷ [])

-- ---- effects: more than this the code doesn't do

-- local.set, local.tee, global.set, and whatever changes globals, memories, tables, segments or what lies outside
abbrev pub row_writes : IntegerRow → Bool
row_writes (set x) = true
row_writes (tee x) = true
row_writes (other i) = changes i
row_writes row = false

-- it may write a variable, or change anything else
abbrev pub writes : List Instruction → Bool
writes [] = false
writes (i ∷ code) = row_writes (integer_row i) || writes code

-- div_s, div_u, rem_s, rem_u
abbrev pub binary_traps : Binary → Bool
binary_traps DivS = true
binary_traps DivU = true
binary_traps RemS = true
binary_traps RemU = true
binary_traps f = false

abbrev pub operation_traps : Operation → Bool
operation_traps (operation.Binary t f) = binary_traps f
operation_traps f = false

abbrev pub any_traps : Option Operation → Bool
any_traps (Some f) = operation_traps f
any_traps None = false

-- the operator on whole numbers that the instruction is, where it is one without an immediate
abbrev pub operation_by : Imm → Option ℕ → Option Operation
operation_by imm.Nothing byte = option_and_then operation_of byte
operation_by i byte = None

-- truncations of floats that aren't saturating, loads, table.get, and whatever may change what is no variable
abbrev pub row_traps : IntegerRow → Bool
row_traps (other i) = may_trap i
row_traps row = false

-- one of all these
abbrev pub instruction_traps : Instruction → Bool
instruction_traps i = any_traps (operation_by i.imm (instruction_byte i)) || row_traps (integer_row i)

-- it may trap
abbrev pub traps : List Instruction → Bool
traps [] = false
traps (i ∷ code) = instruction_traps i || traps code

-- it may ask the world, as an instruction does that is no integer row
abbrev pub asks : List Instruction → Bool
asks [] = false
asks (i ∷ code) = is_other (integer_row i) || asks code
