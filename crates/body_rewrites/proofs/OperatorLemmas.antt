-- The instructions of operators and constants stand in the table.
use Rattle.std.proofs.Common.{◌≡◌, true, refl}
use Rattle.std.specs.Prelude.{ℤ}
use Rattle.wasm_code.specs.Instruction.{fits_row}
use Rattle.wasm_code.specs.Table as table
use Rattle.wasm_code.specs.Table.{row_at}
use Rattle.wasm_code.specs.declared.immediate.Imm.TheVariants as imm

pub i32_fits : (z : ℤ) → fits_row (row_at 36) (imm.I32 z) ≡ true
unfolding row_at table.table
i32_fits z = refl

pub i64_fits : (z : ℤ) → fits_row (row_at 37) (imm.I64 z) ≡ true
unfolding row_at table.table
i64_fits z = refl
