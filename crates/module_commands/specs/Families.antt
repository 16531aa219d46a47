-- The families of instructions by which the reach of rules is told (opcodes: WebAssembly Core Specification 3.0, Binary Format,
-- Instructions; the families: this
-- project).
use Rattle.std.specs.Prelude.{ℕ, ◌==◌, ◌&&◌, ◌||◌, not, nat_lt, if◌then◌else◌, Bool, true, false, Option, Some, None, is_some}
use Rattle.wasm_code.specs.declared.immediate.Imm.{Imm}
use Rattle.wasm_code.specs.declared.immediate.Imm.TheVariants as imm
use Rattle.wasm_code.specs.declared.operator.Operator.{Operator}
use Rattle.wasm_code.specs.declared.operator.Operator.TheVariants as op
use Rattle.wasm_code.specs.declared.table.Opcode.{Opcode}
use Rattle.wasm_code.specs.declared.table.Opcode.TheVariants.{Byte, Fc, Fd}
use Rattle.wasm_code.specs.Instruction.{Instruction}
use Rattle.wasm_code.specs.Table.{row_at, opcode_in}
use Rattle.wasm_execution.specs.IntegerRow.{bare_operator}
use Rattle.module_commands.specs.declared.families.Family.{Family}
use Rattle.module_commands.specs.declared.families.Family.TheVariants.{Integers, Floats, Vectors, Accesses}

-- a number from the first to the last
abbrev pub is_within : (first last n : ℕ) → Bool
is_within first last n = not (nat_lt n first) && not (nat_lt last n)

-- The opcodes of integer instructions, whose operands and results are i32 or i64 alone: 41 and 42, of the constants, and those of the operators, the
-- comparisons and the conversions.
abbrev pub is_integer_byte : ℕ → Bool
is_integer_byte byte = if byte == 0x41 then true else (if byte == 0x42 then true else is_some (bare_operator byte))

-- Those with an f32 or f64 among their operands and results: 43 and 44, of the constants, 5B to 66, of the comparisons, 8B to A6, of the operators, and A8 to
-- BF, of the conversions, but those of integer instructions.
abbrev pub is_float_byte : ℕ → Bool
is_float_byte byte = is_within 0x43 0x44 byte || (is_within 0x5b 0x66 byte || (is_within 0x8b 0xa6 byte || is_within 0xa8 0xbf byte))

abbrev pub byte_family : ℕ → Option Family
byte_family byte = if is_integer_byte byte then Some Integers else (if is_float_byte byte then Some Floats else None)

-- behind FC the first eight are conversions of floats; behind FD all are on vectors
abbrev pub opcode_family : Option Opcode → Option Family
opcode_family None = None
opcode_family (Some (Byte byte)) = byte_family byte
opcode_family (Some (Fc n)) = if nat_lt n 8 then Some Floats else None
opcode_family (Some (Fd n)) = Some Vectors

-- the immediate has a place in a memory, as those of loads and stores alone
abbrev pub has_place : Imm → Bool
has_place (imm.Mem m) = true
has_place (imm.MemLane m lane) = true
has_place i = false

abbrev pub instruction_family : Instruction → Option Family
instruction_family i = if has_place i.imm then Some Accesses else opcode_family (opcode_in (row_at i.row))

-- no operator that isn't an instruction of the table is of a family
abbrev pub family_of : Operator → Option Family
family_of (op.Instr i) = instruction_family i
family_of operator = None

-- ---- by rows of the table, for private functions

-- where the opcode is more than one byte
abbrev pub row_family : ℕ → Option Family
row_family row = if is_within 171 178 row then Some Floats else (if is_within 189 444 row then Some Vectors else None)
