-- Another operator of the same types: the rows without an immediate that are tried (this project; types of instructions: WebAssembly Core Specification 3.0,
-- Validation, Instructions).
use Rattle.std.specs.Prelude.{◌≡◌, ◌≢◌, ℕ, zero, suc, ◌+◌, ◌==◌, ◌&&◌, not, Bool, true, false, if◌then◌else◌, List, Option, Some, None, IsTrue}
use Rattle.std.specs.List.{All}
use Rattle.wasm_code.specs.Instruction.{Instruction, IsInstruction, fits_row}
use Rattle.wasm_code.specs.Table.{row_at}
use Rattle.wasm_code.specs.declared.immediate.Imm.TheVariants.{Nothing}
use Rattle.wasm_types.specs.declared.types.PrimitiveTypeInfo.{PrimitiveTypeInfo}
use Rattle.wasm_execution.specs.Values.{Context, same_type}
use Rattle.body_changes.specs.declared.others.Asked.{Asked}
use Rattle.body_changes.specs.Goals.{context_for}
use Rattle.body_changes.specs.Typed.{is_told_apart, told_types}

-- a row's instruction without an immediate: these alone are tried
abbrev pub bare : (row : ℕ) → Instruction
bare row = record { row = row; imm = Nothing }

-- Another row without an immediate gives the same on operands of these types, each of which is told apart.
pub record IsOther (context : Context) (operands : List PrimitiveTypeInfo) (i other : Instruction) : Type 0 where
  pub instruction : IsInstruction other
  pub is_bare : other ≡ bare other.row
  pub differs : other.row ≢ i.row
  pub told : All (λ (t : PrimitiveTypeInfo). IsTrue (is_told_apart t)) operands
  pub gives : Option PrimitiveTypeInfo
  pub own : told_types context i operands ≡ Some gives
  pub same : told_types context other operands ≡ Some gives

-- ---- for private functions

-- the types are there, and are the same: one type, or none
abbrev pub same_results : Option (Option PrimitiveTypeInfo) → Option PrimitiveTypeInfo → Bool
same_results (Some (Some t)) (Some u) = same_type t u
same_results (Some None) None = true
same_results o u = false

-- the row's instruction gives what is asked for, and isn't the own one
abbrev pub is_row_asked_for : Asked → (row : ℕ) → Bool
is_row_asked_for asked row =
    not (row == asked.own) && (fits_row (row_at row) Nothing
    && same_results (told_types (context_for asked.scope) (bare row) asked.operands.now) asked.gives)

-- how many rows below that one do
unfoldable pub others_below : Asked → (row : ℕ) → ℕ
others_below asked zero = 0
others_below asked (suc row) = if is_row_asked_for asked row then others_below asked row + 1 else others_below asked row
