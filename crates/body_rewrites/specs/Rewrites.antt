-- The rewrites that there are of a body: of an operator, by a row of the table for a width (this project).
use Rattle.std.specs.Prelude.{◌≡◌, ◌≢◌, ℕ, zero, suc, ◌+◌, ◌-◌, ◌==◌, nat_lt, if◌then◌else◌, List, [], ◌∷◌, ◌++◌, length, map, Some, slice_get}
use Rattle.wasm_code.specs.declared.operator.Operator.{Operator}
use Rattle.wasm_types.specs.declared.types.PrimitiveTypeInfo.{PrimitiveTypeInfo}
use Rattle.body_splices.specs.OwnBytes.{without_offsets}
use Rattle.body_splices.specs.declared.piece.Piece.{Piece}
use Rattle.body_splices.specs.Laws.{pieces_operators}
use Rattle.wasm_execution.specs.declared.integer.IntegerType.{IntegerType}
use Rattle.wasm_execution.specs.declared.integer.IntegerType.TheVariants as integer
use Rattle.wasm_execution.specs.Values.{Context}
use Rattle.rewrite_rules.specs.declared.table.Row.{Row}
use Rattle.rewrite_rules.specs.declared.table.Widths.{Widths}
use Rattle.rewrite_rules.specs.declared.table.Widths.TheVariants.{Own}
use Rattle.rewrite_rules.specs.Table.{ROWS, widths_in}
use Rattle.body_rewrites.specs.declared.growth.Growth.{Growth}
use Rattle.body_rewrites.specs.declared.growth.Growth.TheVariants.{Shrinks, Keeps, Grows}
use Rattle.body_rewrites.specs.declared.changes.NewCode.{NewCode}
use Rattle.body_rewrites.specs.declared.places.Body.{Body}
use Rattle.body_rewrites.specs.declared.places.Line.{Line}
use Rattle.body_rewrites.specs.declared.places.Place.{Place}
use Rattle.body_rewrites.specs.declared.rewrite.Rewrite.{Rewrite}
use Rattle.body_rewrites.specs.Matching.{operators_in}
use Rattle.body_rewrites.specs.Places.{context_of, IsFoundPlaceOf}
use Rattle.body_rewrites.specs.Changed.{AppendsChanged}
use Rattle.body_rewrites.specs.Changes.{Change, IsWritten}
use Rattle.body_rewrites.specs.Own.{IsOwnChange}
use Rattle.body_rewrites.specs.Writing.{by_line}

-- ---- by a line

-- the pieces are other operators than those from `start` to before `end`
abbrev pub Differ : List (Operator × ℕ) → (start end : ℕ) → List Piece → Type 0
Differ operators start end pieces = pieces_operators (without_offsets operators) pieces ≢ operators_in operators start end

-- The line applies at the operator and makes that change, by which something else stands there than stood there (as isn't so where operands change places that
-- are the same code).
pub record IsLineChange (context : Context) (operators : List (Operator × ℕ)) (line : Line) (at : ℕ) (change : Change) : Type 0 where
  pub place : Place
  pub is : IsFoundPlaceOf context operators line (at + 1) place
  pub change_is : change ≡ by_line line place
  pub differs : Differ operators change.start (at + 1) (change.pieces 0)

-- ---- by a row

-- the widths that a row is asked for: its own; a rule beside the table has none, and is asked for one
abbrev pub asked_widths : Widths → List IntegerType
asked_widths (Own own) = integer.I32 ∷ []
asked_widths widths = widths_in widths

-- what the row makes for the width: its line, or the rule beside the table that it names
abbrev pub MakesBy : Context → List (Operator × ℕ) → Line → (at : ℕ) → Change → Widths → Type 0
MakesBy context operators line at change (Own own) = IsOwnChange context operators own at change
MakesBy context operators line at change widths = IsLineChange context operators line at change

abbrev pub Makes : Context → List (Operator × ℕ) → Line → (at : ℕ) → Change → Type 0
Makes context operators line at change = MakesBy context operators line at change line.row.widths

-- it is a row of the table, and one of the widths that it is asked for
pub record IsAsked (number : ℕ) (line : Line) : Type 0 where
  pub row_is : slice_get ROWS number ≡ Some line.row
  pub place : ℕ
  pub width_is : slice_get (asked_widths line.row.widths) place ≡ Some line.width

-- it is the line of the rewrite
abbrev pub IsLineOf : Rewrite → Line → Type 0
IsLineOf r line = IsAsked r.row line × (line.width ≡ r.width)

-- one of the widths
abbrev pub HasWidth : List IntegerType → IntegerType → Type 0
HasWidth widths width = (place : ℕ) × (slice_get widths place ≡ Some width)

-- The rewrite makes that change of the body.
pub record IsMadeBy (context : Context) (operators : List (Operator × ℕ)) (r : Rewrite) (change : Change) : Type 0 where
  pub line : Line
  pub asked : IsAsked r.row line
  pub width_is : line.width ≡ r.width
  pub makes : Makes context operators line r.operator change

-- it makes something
abbrev pub IsMade : Context → List (Operator × ℕ) → Rewrite → Type 0
IsMade context operators r = (change : Change) × IsMadeBy context operators r change

-- ---- what it does to the number of operators

abbrev pub growth_by_sizes : (old new : ℕ) → Growth
growth_by_sizes old new = if nat_lt new old then Shrinks else (if new == old then Keeps else Grows)

abbrev pub growth_of : List (Operator × ℕ) → (at : ℕ) → Change → Growth
growth_of operators at change =
    growth_by_sizes (at + 1 - change.start) (length (pieces_operators (without_offsets operators) (change.pieces 0)))

-- ---- all that may be asked of a body, in their order: by the operator, the row, the width

abbrev pub by_rows : (at number : ℕ) → List Row → List Rewrite
by_rows at number [] = []
by_rows at number (row ∷ rows) =
    map (λ (width : IntegerType). record { operator = at; row = number; width = width }) (asked_widths row.widths) ++ by_rows at (suc number) rows

abbrev pub asked_below : (end : ℕ) → List Rewrite
asked_below zero = []
asked_below (suc at) = asked_below at ++ by_rows at 0 ROWS

-- ---- as code has it

-- some row of the table has that line
abbrev pub HasLine : Line → Type 0
HasLine line = (number : ℕ) × IsAsked number line

-- The code is what the line makes at the operator, by the word.
pub record IsCodeOf (body : Body) (line : Line) (at word : ℕ) (code : NewCode) : Type 0 where
  pub change : Change
  pub makes : Makes (context_of body) body.operators.now line at change
  pub written : IsWritten change word code

-- it makes nothing there
abbrev pub MakesNothing : Body → Line → (at : ℕ) → Type 0
MakesNothing body line at = (change : Change) → ¬ (Makes (context_of body) body.operators.now line at change)

-- The sink has grown by the body with the rewrite in it by the word, which does what the body did; these are the types of the globals that it asks for.
pub record AppendsRewritten (context : Context) (input : List ℕ) (operators : List (Operator × ℕ)) (r : Rewrite) (word : ℕ) (old new : List ℕ)
    (asks : List PrimitiveTypeInfo) : Type 0 where
  pub change : Change
  pub made : IsMadeBy context operators r change
  pub asks_are : asks ≡ change.asks
  pub written : AppendsChanged context input operators r.operator change word old new
