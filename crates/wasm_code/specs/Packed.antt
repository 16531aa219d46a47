-- How the code keeps an instruction in few bytes (this project): for private functions and the type's own model alone.
use Rattle.std.specs.Prelude.{◌≡◌, ℕ}
use Rattle.std.specs.Int.{w64, w128, from_le_bytes, to_le_bytes, cast_signed, cast_unsigned}
use Rattle.wasm_code.specs.declared.immediate.Imm.{Imm}
use Rattle.wasm_code.specs.declared.immediate.Imm.TheVariants as imm
use Rattle.wasm_code.specs.declared.packed.Packed.{Packed}
use Rattle.wasm_code.specs.declared.packed.Packed.TheVariants as packed
use Rattle.wasm_code.specs.Code.{v128_code}
use Rattle.wasm_code.specs.Instruction.{Instruction, IsInstruction}

-- the row and the immediate, by its form
abbrev pub packed_of : ℕ → Imm → Packed
packed_of row imm.Nothing = packed.Nothing row
packed_of row (imm.Index n) = packed.Index row n
packed_of row (imm.Pair a b) = packed.Pair row a b
packed_of row (imm.Mem m) = packed.Mem row m.memory (to_le_bytes w64 m.offset) m.align
packed_of row (imm.MemLane m lane) = packed.MemLane row m.memory (to_le_bytes w64 m.offset) m.align lane
packed_of row (imm.Lane lane) = packed.Lane row lane
packed_of row (imm.I32 z) = packed.I32 row z
packed_of row (imm.I64 z) = packed.I64 row (to_le_bytes w64 (cast_unsigned w64 z))
packed_of row (imm.F32 bits) = packed.F32 row bits
packed_of row (imm.F64 bits) = packed.F64 row (to_le_bytes w64 bits)
packed_of row (imm.V128 z) = packed.V128 row (v128_code z)
packed_of row (imm.Shuffle lanes) = packed.Shuffle row lanes
packed_of row (imm.Heap t) = packed.Heap row t
packed_of row (imm.Val t) = packed.Val row t

-- what is kept so
abbrev pub instruction_of : Packed → Instruction
instruction_of (packed.Nothing row) = record { row = row; imm = imm.Nothing }
instruction_of (packed.Index row n) = record { row = row; imm = imm.Index n }
instruction_of (packed.Pair row a b) = record { row = row; imm = imm.Pair a b }
instruction_of (packed.Mem row memory offset align) =
    record { row = row; imm = imm.Mem (record { offset = from_le_bytes w64 offset; align = align; memory = memory }) }
instruction_of (packed.MemLane row memory offset align lane) =
    record { row = row; imm = imm.MemLane (record { offset = from_le_bytes w64 offset; align = align; memory = memory }) lane }
instruction_of (packed.Lane row lane) = record { row = row; imm = imm.Lane lane }
instruction_of (packed.I32 row z) = record { row = row; imm = imm.I32 z }
instruction_of (packed.I64 row bytes) = record { row = row; imm = imm.I64 (cast_signed w64 (from_le_bytes w64 bytes)) }
instruction_of (packed.F32 row bits) = record { row = row; imm = imm.F32 bits }
instruction_of (packed.F64 row bytes) = record { row = row; imm = imm.F64 (from_le_bytes w64 bytes) }
instruction_of (packed.V128 row bytes) = record { row = row; imm = imm.V128 (cast_signed w128 (from_le_bytes w128 bytes)) }
instruction_of (packed.Shuffle row lanes) = record { row = row; imm = imm.Shuffle lanes }
instruction_of (packed.Heap row t) = record { row = row; imm = imm.Heap t }
instruction_of (packed.Val row t) = record { row = row; imm = imm.Val t }

-- It keeps an instruction, in the one way.
pub record IsPacked (p : Packed) : Type 0 where
  pub instruction : IsInstruction (instruction_of p)
  pub one : packed_of (instruction_of p).row (instruction_of p).imm ≡ p
