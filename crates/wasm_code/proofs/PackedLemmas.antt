-- An instruction is kept whole in few bytes.
use Rattle.std.proofs.Common.{◌≡◌, ℕ, ℤ, pos, negsuc, neg_ℤ, ◌≤ℤ◌, ◌<ℤ◌, ◌^◌, ◌<◌, FitsSigned, refl, sym, ap, subst, ◌∙◌, arith}
use Rattle.std.specs.Int.{w64, to_le_bytes, from_le_bytes, cast_signed, cast_unsigned}
use Rattle.std.proofs.lemmas.Nat.{from_le_bytes-to_le_bytes_8}
use Rattle.std.proofs.lemmas.Int.{ints, to_z-of_z}
use Rattle.wasm_code.specs.declared.immediate.Imm.{Imm}
use Rattle.wasm_code.specs.declared.immediate.Imm.TheVariants as imm
use Rattle.wasm_code.specs.Instruction.{Instruction, InRange, IsInstruction}
use Rattle.wasm_code.specs.Packed.{packed_of, instruction_of, IsPacked}
use Rattle.wasm_code.proofs.CodeLemmas.{v128_same}

i64_fits : (z : ℤ) → (neg_ℤ (pos (2 ^ 63)) ≤ℤ z) × (z <ℤ pos (2 ^ 63)) → cast_unsigned w64 z < 2 ^ 64
i64_fits (pos n) range = omega (arith, ints, range.1)
i64_fits (negsuc n) range = omega arith

i64_fits_signed : (z : ℤ) → (neg_ℤ (pos (2 ^ 63)) ≤ℤ z) × (z <ℤ pos (2 ^ 63)) → FitsSigned w64 z
i64_fits_signed (pos n) range = record { sfits = omega (arith, ints, range.1) }
i64_fits_signed (negsuc n) range = record { sfits = omega (arith, ints, range.0) }

-- the bytes of a constant of type i64 are its own
i64_same : (z : ℤ) → (neg_ℤ (pos (2 ^ 63)) ≤ℤ z) × (z <ℤ pos (2 ^ 63)) →
    cast_signed w64 (from_le_bytes w64 (to_le_bytes w64 (cast_unsigned w64 z))) ≡ z
i64_same z range =
    ap (λ (n : ℕ). cast_signed w64 n) (from_le_bytes-to_le_bytes_8 (cast_unsigned w64 z) (i64_fits z range)) ∙ to_z-of_z w64 z (i64_fits_signed z range)

pub same_instruction : (row : ℕ) (i : Imm) → InRange i → instruction_of (packed_of row i) ≡ record { row = row; imm = i }
same_instruction row (imm.Mem m) r =
    ap (λ (n : ℕ). let i : Instruction = record { row = row; imm = imm.Mem (record { offset = n; align = m.align; memory = m.memory }) } in i)
    (from_le_bytes-to_le_bytes_8 m.offset r.1)
same_instruction row (imm.MemLane m lane) r =
    ap (λ (n : ℕ). let i : Instruction = record { row = row; imm = imm.MemLane (record { offset = n; align = m.align; memory = m.memory }) lane } in i)
    (from_le_bytes-to_le_bytes_8 m.offset r.0.1)
same_instruction row (imm.I64 z) r = ap (λ (y : ℤ). let i : Instruction = record { row = row; imm = imm.I64 y } in i) (i64_same z r)
same_instruction row (imm.F64 bits) r =
    ap (λ (n : ℕ). let i : Instruction = record { row = row; imm = imm.F64 n } in i) (from_le_bytes-to_le_bytes_8 bits r)
same_instruction row (imm.V128 z) r = ap (λ (y : ℤ). let i : Instruction = record { row = row; imm = imm.V128 y } in i) (v128_same z r)
same_instruction row _ r = refl

pub is_packed : (row : ℕ) (i : Imm) → IsInstruction (record { row = row; imm = i }) → IsPacked (packed_of row i)
is_packed row i is =
    let same = same_instruction row i is.in_range in
    record { instruction = subst IsInstruction (sym same) is; one = ap (λ (j : Instruction). packed_of j.row j.imm) same }
