-- Lines whose left side is an operand alone: where they apply, and what they do to the number of operators.
use Rattle.std.proofs.Common.{◌≡◌, ℕ, zero, suc, ◌-◌, Bool, true, false, List, [], ◌∷◌, Option, Some, None}
use Rattle.std.proofs.Common.{refl, sym, subst}
use Rattle.std.specs.Prelude.{◌==◌, ◌&&◌, ◌||◌, not, slice_get}
use Rattle.std.proofs.lemmas.Bool.{and_parts, false≢true}
use Rattle.wasm_execution.specs.declared.integer.IntegerType.{IntegerType}
use Rattle.wasm_execution.specs.declared.integer.IntegerType.TheVariants as integer
use Rattle.rewrite_rules.specs.declared.pattern.Part.{Part}
use Rattle.rewrite_rules.specs.declared.pattern.Part.TheVariants.{Hole}
use Rattle.rewrite_rules.specs.declared.table.Condition as asked
use Rattle.rewrite_rules.specs.declared.table.Row.{Row}
use Rattle.rewrite_rules.specs.declared.table.Step.{Step}
use Rattle.rewrite_rules.specs.declared.table.Step.TheVariants as step
use Rattle.rewrite_rules.specs.declared.table.Widths.{Widths}
use Rattle.rewrite_rules.specs.declared.table.Widths.TheVariants.{Both, Only}
use Rattle.rewrite_rules.specs.Holes.{holes_for}
use Rattle.rewrite_rules.specs.Line as lines
use Rattle.rewrite_rules.specs.Table as table
use Rattle.rewrite_rules.specs.Table.{ROWS, parts_for}
use Rattle.body_rewrites.specs.declared.places.Line.{Line}
use Rattle.body_rewrites.specs.Alone.{are_alone}
use Rattle.body_rewrites.specs.Operands.{has_hole}
use Rattle.body_rewrites.specs.Places.{IsLine}
use Rattle.body_rewrites.proofs.FormLemmas.{has_types, IsAskedAlone}

-- ---- what is computed once of the table

-- each hole is the first one
abbrev pub only_first : List Part → Bool
only_first [] = true
only_first (Hole n ∷ ps) = n == 0 && only_first ps
only_first (p ∷ ps) = only_first ps

-- one is no hole
abbrev pub has_other : List Part → Bool
has_other [] = false
has_other (Hole n ∷ ps) = has_other ps
has_other (p ∷ ps) = true

abbrev pub is_longer : List Part → Bool
is_longer ps = only_first ps && (has_hole ps 0 && has_other ps)

abbrev pub one_or_two : List ℕ → Bool
one_or_two (zero ∷ []) = true
one_or_two (zero ∷ zero ∷ []) = true
one_or_two ns = false

abbrev pub of_width : Widths → Bool
of_width Both = true
of_width (Only t) = true
of_width w = false

abbrev pub asks_nothing : Option asked.Condition → Bool
asks_nothing None = true
asks_nothing (Some k) = false

-- its line for the width has an exact row
abbrev pub is_exact_for : IntegerType → Row → Bool
is_exact_for t row = lines.is_exact_line (table.line_of row t)

-- The types of its operands are told, so it is asked like any other line; or its left side is no operand alone; or what follows is so of it.
abbrev alone_row : Row → Bool
alone_row row =
    has_types row.widths
    || (not (are_alone row.left)
    || ((of_width row.widths && (asks_nothing row.condition && (not (is_exact_for integer.I32 row) && not (is_exact_for integer.I64 row))))
    && (one_or_two (holes_for row.right) && (is_longer (parts_for integer.I32 row.right) && is_longer (parts_for integer.I64 row.right)))))

abbrev alone_rows : List Row → Bool
alone_rows [] = true
alone_rows (r ∷ rs) = alone_row r && alone_rows rs

all_rows : alone_rows ROWS ≡ true
unfolding table.parts
all_rows = refl

at_row : (rs : List Row) → alone_rows rs ≡ true → (i : ℕ) (row : Row) → slice_get rs i ≡ Some row → alone_row row ≡ true
at_row [] e i row at = absurd cc
at_row (r ∷ rs) e zero row at =
    let is : r ≡ row = cc in
    subst (λ (q : Row). alone_row q ≡ true) is (and_parts (alone_row r) (alone_rows rs) e).0
at_row (r ∷ rs) e (suc i) row at = at_row rs (and_parts (alone_row r) (alone_rows rs) e).1 i row at

-- what that is of a row whose left side is an operand alone
pub record IsAloneRow (row : Row) (t : IntegerType) : Type 0 where
  pub width : of_width row.widths ≡ true
  pub nothing : asks_nothing row.condition ≡ true
  pub always : is_exact_for t row ≡ false
  pub few : one_or_two (holes_for row.right) ≡ true
  pub longer : is_longer (parts_for t row.right) ≡ true

or_other : (a b : Bool) → a ≡ true → (not a || b) ≡ true → b ≡ true
or_other true b e h = h
or_other false b e h = absurd (false≢true e)

not_true : (b : Bool) → not b ≡ true → b ≡ false
not_true true e = absurd (false≢true e)
not_true false e = refl

or_last : (a b : Bool) → a ≡ false → (a || b) ≡ true → b ≡ true
or_last true b e h = absurd (false≢true (sym e))
or_last false b e h = h

pub alone_is : (line : Line) → IsLine line → IsAskedAlone line.row line.row.widths → IsAloneRow line.row line.width
alone_is line is e =
    let row = line.row in
    let h = or_other (are_alone row.left) _ e.left (or_last (has_types row.widths) _ e.untyped (at_row ROWS all_rows is.number row is.row_is)) in
    let (a, b) = and_parts (of_width row.widths && (asks_nothing row.condition
    && (not (is_exact_for integer.I32 row) && not (is_exact_for integer.I64 row)))) _ h in
    let (w, k) = and_parts (of_width row.widths) _ a in
    let (n, x) = and_parts (asks_nothing row.condition) _ k in
    let (c, d) = and_parts (one_or_two (holes_for row.right)) _ b in
    record {
      width = w;
      nothing = n;
      always = always_for line.width (and_parts (not (is_exact_for integer.I32 row)) _ x);
      few = c;
      longer = for line.width (and_parts (is_longer (parts_for integer.I32 row.right)) _ d);
    }
  where
    always_for : (t : IntegerType) → (not (is_exact_for integer.I32 line.row) ≡ true) × (not (is_exact_for integer.I64 line.row) ≡ true) →
        is_exact_for t line.row ≡ false
    always_for integer.I32 h = not_true (is_exact_for integer.I32 line.row) h.0
    always_for integer.I64 h = not_true (is_exact_for integer.I64 line.row) h.1

    for : (t : IntegerType) →
        (is_longer (parts_for integer.I32 line.row.right) ≡ true) × (is_longer (parts_for integer.I64 line.row.right) ≡ true) →
        is_longer (parts_for t line.row.right) ≡ true
    for integer.I32 h = h.0
    for integer.I64 h = h.1

-- the left side's part and its hole
pub alone_left : (t : IntegerType) (steps : List Step) → are_alone steps ≡ true → (parts_for t steps ≡ Hole 0 ∷ []) × (holes_for steps ≡ 0 ∷ [])
alone_left t [] e = absurd (false≢true e)
alone_left t (step.Operand zero ∷ []) e = absurd (false≢true e)
alone_left t (step.Operand zero ∷ step.End ∷ steps) e = (refl, refl)
alone_left t (step.Operand zero ∷ step.Operand n ∷ steps) e = absurd (false≢true e)
alone_left t (step.Operand zero ∷ step.Constant n ∷ steps) e = absurd (false≢true e)
alone_left t (step.Operand zero ∷ step.Drawn ∷ steps) e = absurd (false≢true e)
alone_left t (step.Operand zero ∷ step.Binary f ∷ steps) e = absurd (false≢true e)
alone_left t (step.Operand zero ∷ step.Compare f ∷ steps) e = absurd (false≢true e)
alone_left t (step.Operand zero ∷ step.Eqz ∷ steps) e = absurd (false≢true e)
alone_left t (step.Operand zero ∷ step.Select ∷ steps) e = absurd (false≢true e)
alone_left t (step.Operand zero ∷ step.Whole f ∷ steps) e = absurd (false≢true e)
alone_left t (step.Operand zero ∷ step.Exact n i ∷ steps) e = absurd (false≢true e)
alone_left t (step.Operand (suc n) ∷ steps) e = absurd (false≢true e)
alone_left t (step.End ∷ steps) e = absurd (false≢true e)
alone_left t (step.Constant n ∷ steps) e = absurd (false≢true e)
alone_left t (step.Drawn ∷ steps) e = absurd (false≢true e)
alone_left t (step.Binary f ∷ steps) e = absurd (false≢true e)
alone_left t (step.Compare f ∷ steps) e = absurd (false≢true e)
alone_left t (step.Eqz ∷ steps) e = absurd (false≢true e)
alone_left t (step.Select ∷ steps) e = absurd (false≢true e)
alone_left t (step.Whole f ∷ steps) e = absurd (false≢true e)
alone_left t (step.Exact n i ∷ steps) e = absurd (false≢true e)
