-- What is shown of the lines of rows, row by row.
use Rattle.std.proofs.Common.{sym, List, [], ◌∷◌, ◌++◌}
use Rattle.std.specs.Prelude.{⊤}
use Rattle.wasm_execution.specs.declared.integer.IntegerType.{IntegerType}
use Rattle.wasm_execution.specs.declared.integer.IntegerType.TheVariants as integer
use Rattle.rewrite_rules.specs.declared.table.Widths.{Widths}
use Rattle.rewrite_rules.specs.declared.table.Widths.TheVariants.{Both, Only, Any, Operands, Own}
use Rattle.rewrite_rules.specs.declared.table.Row.{Row}
use Rattle.rewrite_rules.specs.Line.{Line, IsRight}
use Rattle.rewrite_rules.proofs.identities.Words as line
use Rattle.rewrite_rules.specs.Table.{Entry, rows_of, joined, width_by, line_of}

-- it holds of the line of a row, for each of the row's widths
abbrev pub AtWidths : (Line → Type 0) → Widths → (IntegerType → Line) → Type 0
AtWidths P Both l = (t : IntegerType) → P (l t)
AtWidths P (Only t) l = P (l t)
AtWidths P Any l = P (l integer.I32)
AtWidths P (Operands a b c) l = P (l (width_by a))
AtWidths P (Own o) l = ⊤

abbrev pub AtRows : (Line → Type 0) → List Row → Type 0
AtRows P [] = ⊤
AtRows P (r ∷ rs) = AtWidths P r.widths (line_of r) × AtRows P rs

-- what is shown of one, and of the others
infixr 50 ◌▸◌
pub ◌▸◌ : {A B : Type 0} → A → B → A × B
a ▸ b = (a, b)

-- of the lines of each list
abbrev pub AtParts : (Line → Type 0) → List (List Entry) → Type 0
AtParts P [] = ⊤
AtParts P (es ∷ rest) = AtRows P (rows_of es) × AtParts P rest

-- of the lines of one list, and of those behind them
pub joins : (P : Line → Type 0) (es ds : List Entry) → AtRows P (rows_of es) → AtRows P (rows_of ds) → AtRows P (rows_of (es ++ ds))
joins P [] ds h k = k
joins P (e ∷ es) ds h k = (h.0, joins P es ds h.1 k)

-- of the lines of all of them
pub at_all : (P : Line → Type 0) (lists : List (List Entry)) → AtParts P lists → AtRows P (rows_of (joined lists))
at_all P [] h = tt
at_all P (es ∷ rest) h = joins P es (joined rest) h.0 (at_all P rest h.1)

-- a line that is right is right from right to left
pub turned : (l : IntegerType → Line) → ((t : IntegerType) → IsRight (l t)) → (t : IntegerType) → IsRight (line.back l t)
turned l k t h c us vs a e = sym (k t h c vs us a e)
