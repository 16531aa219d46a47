-- The operand whose type is that of a node's result, where the instruction table says that the first one decides (this
-- project). The code goes down from a node to such an operand; these words are its own.
use Rattle.std.specs.Prelude.{ℕ, ◌-◌, nat_lt, List, [], ◌∷◌, Option, Some, None, if◌then◌else◌}
use Rattle.wasm_code.specs.Table.{row_info_of}
use Rattle.wasm_code.specs.declared.table.ResultKind.{ResultKind}
use Rattle.wasm_code.specs.declared.table.ResultKind.TheVariants.{First}
use Rattle.wasm_code.specs.declared.table.RowInfo.{RowInfo}
use Rattle.peephole_lang.specs.Lang.{place_of, ids_of}
use Rattle.peephole_lang.specs.declared.lang.Lang.{Lang}
use Rattle.peephole_nodes.specs.declared.id.Id.{Id}

-- the place of the first operand, where there is one
abbrev pub first_place : List Id → Option ℕ
first_place [] = None
first_place (id ∷ ids) = Some id.0

-- that place where the result is of the first operand's type, as of a `select`; else none
abbrev pub deciding_by : ResultKind → List Id → Option ℕ
deciding_by First ids = first_place ids
deciding_by _ ids = None

-- the same by a row of the table; none where there is no such row
abbrev pub deciding_in : Option RowInfo → List Id → Option ℕ
deciding_in None ids = None
deciding_in (Some row) ids = deciding_by row.result ids

-- the place of that operand, or none where the operands decide nothing
abbrev pub deciding_operand : Lang → Option ℕ
deciding_operand l = if nat_lt (place_of l) 12 then None else deciding_in (row_info_of (place_of l - 12)) (ids_of l)
