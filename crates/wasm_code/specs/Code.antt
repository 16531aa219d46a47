-- The code of an instruction: its opcode and its immediate, with shortest numbers
-- (WebAssembly Core Specification 3.0, Binary Format, Values, Integers, and Binary Format, Instructions).
use Rattle.std.specs.Prelude.{◌≡◌, ℕ, ℤ, pos, negsuc, zero, suc, ◌+◌, ◌-◌, ◌%◌, ◌/◌, ◌==◌, List, [], ◌∷◌, ◌++◌, Bool, true, false, Option}
use Rattle.std.specs.Prelude.{Some, None, nat_lt, if◌then◌else◌}
use Rattle.wasm_code.specs.declared.table.Opcode.{Opcode}
use Rattle.wasm_code.specs.declared.table.Opcode.TheVariants.{Byte, Fc, Fd}
use Rattle.wasm_code.specs.declared.table.Row.{Row}
use Rattle.std.specs.Int.{w32, w64, w128, to_le_bytes, cast_unsigned}
use Rattle.wasm_code.specs.declared.immediate.MemArg.{MemArg}
use Rattle.wasm_code.specs.declared.immediate.Imm.{Imm}
use Rattle.wasm_code.specs.declared.immediate.Imm.TheVariants as imm
use Rattle.wasm_code.specs.Immediate.{val_type_code, heap_type_code}
use Rattle.wasm_code.specs.Table.{row_at}
use Rattle.wasm_code.specs.Instruction.{Instruction}

-- seven bits in each byte, the lowest first; as few bytes as will do, and at most more + 1
unfoldable pub shortest_within : ℕ → ℕ → List ℕ
shortest_within zero n = n ∷ []
shortest_within (suc more) n = if nat_lt n 128 then n ∷ [] else (n % 128 + 128) ∷ shortest_within more (n / 128)

-- the shortest spelling of a number below 2 ^ 64
unfoldable pub shortest : ℕ → List ℕ
shortest n = shortest_within 9 n

-- the low seven bits of n, or of -1 - n (the number `negsuc n`)
abbrev pub low_bits : Bool → ℕ → ℕ
low_bits false n = n % 128
low_bits true n = 127 - n % 128

-- the same for n, or for -1 - n, whose sign is bit 6 of the last byte
unfoldable pub signed_within : ℕ → Bool → ℕ → List ℕ
signed_within zero negative n = low_bits negative n ∷ []
signed_within (suc more) negative n = if nat_lt n 64 then low_bits negative n ∷ [] else (low_bits negative n + 128) ∷ signed_within more negative (n / 128)

-- the shortest spelling of n, or of -1 - n where it is negative, in at most the ten bytes of a number of 64 bits
unfoldable pub signed_form : Bool → ℕ → List ℕ
signed_form negative n = signed_within 9 negative n

-- the shortest spelling of a number from -2 ^ 63 to 2 ^ 63 - 1
abbrev pub shortest_signed : ℤ → List ℕ
shortest_signed (pos n) = signed_form false n
shortest_signed (negsuc n) = signed_form true n

-- the exponent of the alignment and the offset; for another memory than 0 the exponent plus 64, the index, the offset
unfoldable pub memarg_code : MemArg → List ℕ
memarg_code m = if m.memory == 0 then shortest m.align ++ shortest m.offset else shortest (m.align + 64) ++ shortest m.memory ++ shortest m.offset

-- sixteen bytes, the lowest first
unfoldable pub v128_code : ℤ → List ℕ
v128_code z = to_le_bytes w128 (cast_unsigned w128 z)

-- what stands behind the opcode: floats with the lowest byte first, a written value type behind the count 1
unfoldable pub imm_code : Imm → List ℕ
imm_code imm.Nothing = []
imm_code (imm.Index n) = shortest n
imm_code (imm.Pair a b) = shortest a ++ shortest b
imm_code (imm.Mem m) = memarg_code m
imm_code (imm.MemLane m lane) = memarg_code m ++ lane ∷ []
imm_code (imm.Lane lane) = lane ∷ []
imm_code (imm.I32 z) = shortest_signed z
imm_code (imm.I64 z) = shortest_signed z
imm_code (imm.F32 bits) = to_le_bytes w32 bits
imm_code (imm.F64 bits) = to_le_bytes w64 bits
imm_code (imm.V128 z) = v128_code z
imm_code (imm.Shuffle lanes) = lanes
imm_code (imm.Heap t) = heap_type_code t ∷ []
imm_code (imm.Val t) = 1 ∷ val_type_code t ∷ []

-- one byte, or the prefix FC or FD and the shortest spelling of the number behind it
unfoldable pub opcode_code : Opcode → List ℕ
opcode_code (Byte b) = b ∷ []
opcode_code (Fc n) = 0xfc ∷ shortest n
opcode_code (Fd n) = 0xfd ∷ shortest n

-- the opcode of a row; no bytes where the table has no such row
abbrev pub row_code : Option Row → List ℕ
row_code None = []
row_code (Some row) = opcode_code row.opcode

-- the opcode of the row, and the immediate
unfoldable pub code : Instruction → List ℕ
code i = row_code (row_at i.row) ++ imm_code i.imm

-- the codes of the instructions, joined
abbrev pub codes : List Instruction → List ℕ
codes [] = []
codes (i ∷ is) = code i ++ codes is

-- all of front, and more
abbrev pub BeginsWith : List ℕ → List ℕ → Type 0
BeginsWith all front = (more : List ℕ) × (all ≡ front ++ more)
