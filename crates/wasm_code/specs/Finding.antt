-- How a row of the table is found by its opcode (this project).
use Rattle.std.specs.Prelude.{ℕ, suc, List, [], ◌∷◌, Option, Some, None, Bool, false, ◌==◌, if◌then◌else◌}
use Rattle.wasm_code.specs.declared.table.Opcode.{Opcode}
use Rattle.wasm_code.specs.declared.table.Opcode.TheVariants.{Byte, Fc, Fd}
use Rattle.wasm_code.specs.declared.table.Row.{Row}
use Rattle.wasm_code.specs.Table.{table}

-- one number behind one prefix, or behind none: a prefixed opcode is never the same as one of a single byte
abbrev pub same_opcode : Opcode → Opcode → Bool
same_opcode (Byte a) (Byte b) = a == b
same_opcode (Fc a) (Fc b) = a == b
same_opcode (Fd a) (Fd b) = a == b
same_opcode _ _ = false

-- the first of these rows that has the opcode, and its number, where the first row has the number r
abbrev pub first_with : Opcode → ℕ → List Row → Option (ℕ × Row)
first_with o r [] = None
first_with o r (row ∷ rows) = if same_opcode row.opcode o then Some (r, row) else first_with o (suc r) rows

-- the row with that opcode: its number and the row (no two rows have one opcode)
unfoldable pub row_with : Opcode → Option (ℕ × Row)
row_with o = first_with o 0 table
