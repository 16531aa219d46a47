-- The rows of the instructions that nodes without a row add.
use Rattle.std.specs.Prelude.{ℕ, ℤ, IsTrue, refl}
use Rattle.wasm_code.specs.Instruction.{fits_row}
use Rattle.wasm_code.specs.Table.{row_at, table, HasOpcode}
use Rattle.wasm_code.specs.declared.immediate.Imm.TheVariants as imm
use Rattle.peephole_terms.specs.Laws.{HaveTheirOpcodes}

pub global_get_row : (g : ℕ) → IsTrue (fits_row (row_at 7) (imm.Index g))
unfolding row_at table
global_get_row g = refl

pub global_set_row : (g : ℕ) → IsTrue (fits_row (row_at 8) (imm.Index g))
unfolding row_at table
global_set_row g = refl

pub i32_const_row : (z : ℤ) → IsTrue (fits_row (row_at 36) (imm.I32 z))
unfolding row_at table
i32_const_row z = refl

pub i64_const_row : (z : ℤ) → IsTrue (fits_row (row_at 37) (imm.I64 z))
unfolding row_at table
i64_const_row z = refl

pub f32_const_row : (bits : ℕ) → IsTrue (fits_row (row_at 38) (imm.F32 bits))
unfolding row_at table
f32_const_row bits = refl

pub f64_const_row : (bits : ℕ) → IsTrue (fits_row (row_at 39) (imm.F64 bits))
unfolding row_at table
f64_const_row bits = refl

pub i32_add_row : IsTrue (fits_row (row_at 77) imm.Nothing)
unfolding row_at table
i32_add_row = refl

pub i64_add_row : IsTrue (fits_row (row_at 95) imm.Nothing)
unfolding row_at table
i64_add_row = refl

pub opcodes : HaveTheirOpcodes
unfolding row_at table HasOpcode
opcodes = record {
  i32_const = λ word z. (refl, refl);
  i64_const = λ word z. (refl, refl);
  f32_const = λ word. refl;
  f64_const = λ word. refl;
  adds = (refl, refl);
  globals = λ g. (refl, refl);
}
