-- How the code finds a row by its opcode, in the dense tables (this project): for private functions alone.
use Rattle.std.specs.Prelude.{ℕ, List, Option, Some, None, slice_get, ◌==◌, if◌then◌else◌}
use Rattle.wasm_code.specs.declared.table.Opcode.{Opcode}
use Rattle.wasm_code.specs.declared.table.Opcode.TheVariants.{Byte, Fc, Fd}
use Rattle.wasm_code.specs.declared.dense.TheConstants.{BYTE_ROWS, FC_ROWS, FD_ROWS}

-- 65535 stands for no row
abbrev pub cell_in : Option ℕ → Option ℕ
cell_in None = None
cell_in (Some c) = if c == 65535 then None else Some c

-- the row's number in a cell of a dense table; none in an empty cell, and none behind the last one
abbrev pub cell : List ℕ → ℕ → Option ℕ
cell cells n = cell_in (slice_get cells n)

-- the number in the opcode's cell
unfoldable pub dense_row : Opcode → Option ℕ
dense_row (Byte b) = cell BYTE_ROWS b
dense_row (Fc n) = cell FC_ROWS n
dense_row (Fd n) = cell FD_ROWS n
