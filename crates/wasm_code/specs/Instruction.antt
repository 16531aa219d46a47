-- Instructions: a row of the table and an immediate of the row's kind, its numbers of their types
-- (WebAssembly Core Specification 3.0, Structure, Instructions).
use Rattle.std.specs.Prelude.{◌≡◌, ℕ, pos, neg_ℤ, ◌≤ℤ◌, ◌<ℤ◌, ◌^◌, ◌<◌, nat_lt, length, All, Bool, true, false, IsTrue, Option, Some, None}
use Rattle.wasm_code.specs.declared.table.Kind.{Kind}
use Rattle.wasm_code.specs.declared.table.Kind.TheVariants as kind
use Rattle.wasm_code.specs.declared.table.Row.{Row}
use Rattle.wasm_code.specs.declared.immediate.Imm.{Imm}
use Rattle.wasm_code.specs.declared.immediate.Imm.TheVariants as imm
use Rattle.wasm_code.specs.declared.immediate.MemArg.{MemArg}
use Rattle.wasm_code.specs.Table.{row_at}

-- the number of a row, and an immediate
pub record Instruction : Type 0 where
  pub row : ℕ
  pub imm : Imm

-- an immediate of that kind, the exponent of its alignment below 64
abbrev pub is_of_kind : Kind → Imm → Bool
is_of_kind kind.Nothing imm.Nothing = true
is_of_kind kind.Index (imm.Index n) = true
is_of_kind kind.Pair (imm.Pair a b) = true
is_of_kind kind.Mem (imm.Mem m) = nat_lt m.align 64
is_of_kind kind.MemLane (imm.MemLane m lane) = nat_lt m.align 64
is_of_kind kind.Lane (imm.Lane lane) = true
is_of_kind kind.I32 (imm.I32 z) = true
is_of_kind kind.I64 (imm.I64 z) = true
is_of_kind kind.F32 (imm.F32 bits) = true
is_of_kind kind.F64 (imm.F64 bits) = true
is_of_kind kind.V128 (imm.V128 z) = true
is_of_kind kind.Shuffle (imm.Shuffle lanes) = true
is_of_kind kind.Heap (imm.Heap t) = true
is_of_kind kind.Val (imm.Val t) = true
is_of_kind _ _ = false

-- an immediate of the kind that the row asks for; none fits where the table has no such row
abbrev pub fits_row : Option Row → Imm → Bool
fits_row None i = false
fits_row (Some row) i = is_of_kind row.kind i

-- the memory's index has 32 bits, the offset 64, and the exponent of the alignment 8
abbrev pub MemArgInRange : MemArg → Type 0
MemArgInRange m = (m.memory < 2 ^ 32) × (m.offset < 2 ^ 64) × (m.align < 256)

-- the numbers of an immediate are of their types
abbrev pub InRange : Imm → Type 0
InRange imm.Nothing = Unit {0}
InRange (imm.Index n) = n < 2 ^ 32
InRange (imm.Pair a b) = (a < 2 ^ 32) × (b < 2 ^ 32)
InRange (imm.Mem m) = MemArgInRange m
InRange (imm.MemLane m lane) = MemArgInRange m × (lane < 256)
InRange (imm.Lane lane) = lane < 256
InRange (imm.I32 z) = (neg_ℤ (pos (2 ^ 31)) ≤ℤ z) × (z <ℤ pos (2 ^ 31))
InRange (imm.I64 z) = (neg_ℤ (pos (2 ^ 63)) ≤ℤ z) × (z <ℤ pos (2 ^ 63))
InRange (imm.F32 bits) = bits < 2 ^ 32
InRange (imm.F64 bits) = bits < 2 ^ 64
InRange (imm.V128 z) = (neg_ℤ (pos (2 ^ 127)) ≤ℤ z) × (z <ℤ pos (2 ^ 127))
InRange (imm.Shuffle lanes) = (length lanes ≡ 16) × All (λ b. b < 256) lanes
InRange (imm.Heap t) = Unit {0}
InRange (imm.Val t) = Unit {0}

-- The row is in the table, the immediate is of its kind, and its numbers are of their types.
pub record IsInstruction (i : Instruction) : Type 0 where
  pub kind : IsTrue (fits_row (row_at i.row) i.imm)
  pub in_range : InRange i.imm
