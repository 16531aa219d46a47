-- The rows of new instructions take their immediates.
use Rattle.std.specs.Prelude.{ℕ, ℤ, IsTrue, refl}
use Rattle.wasm_code.specs.Instruction.{fits_row}
use Rattle.wasm_code.specs.Table.{row_at, table}
use Rattle.wasm_code.specs.declared.immediate.Imm.TheVariants as imm

pub i32_const_row : (z : ℤ) → IsTrue (fits_row (row_at 36) (imm.I32 z))
unfolding row_at table
i32_const_row z = refl

pub i64_const_row : (z : ℤ) → IsTrue (fits_row (row_at 37) (imm.I64 z))
unfolding row_at table
i64_const_row z = refl

pub nop_row : IsTrue (fits_row (row_at 0) imm.Nothing)
unfolding row_at table
nop_row = refl

pub drop_row : IsTrue (fits_row (row_at 2) imm.Nothing)
unfolding row_at table
drop_row = refl

pub select_row : IsTrue (fits_row (row_at 3) imm.Nothing)
unfolding row_at table
select_row = refl

pub eqz_row : IsTrue (fits_row (row_at 40) imm.Nothing)
unfolding row_at table
eqz_row = refl

pub ne_row : IsTrue (fits_row (row_at 42) imm.Nothing)
unfolding row_at table
ne_row = refl

pub below_row : IsTrue (fits_row (row_at 44) imm.Nothing)
unfolding row_at table
below_row = refl

pub i32_add_row : IsTrue (fits_row (row_at 77) imm.Nothing)
unfolding row_at table
i32_add_row = refl

pub i64_add_row : IsTrue (fits_row (row_at 95) imm.Nothing)
unfolding row_at table
i64_add_row = refl

pub set_local_row : (n : ℕ) → IsTrue (fits_row (row_at 5) (imm.Index n))
unfolding row_at table
set_local_row n = refl

pub get_local_row : (n : ℕ) → IsTrue (fits_row (row_at 4) (imm.Index n))
unfolding row_at table
get_local_row n = refl

pub tee_local_row : (n : ℕ) → IsTrue (fits_row (row_at 6) (imm.Index n))
unfolding row_at table
tee_local_row n = refl

pub get_global_row : (n : ℕ) → IsTrue (fits_row (row_at 7) (imm.Index n))
unfolding row_at table
get_global_row n = refl

pub set_global_row : (n : ℕ) → IsTrue (fits_row (row_at 8) (imm.Index n))
unfolding row_at table
set_global_row n = refl
