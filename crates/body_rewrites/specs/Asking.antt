-- The lines of the table, as operators are asked for them: for private functions (this project).
use Rattle.std.specs.Prelude.{◌≡◌, ◌⊎◌, ◌↔◌, ◌&&◌, ◌||◌, not, ℕ, suc, ◌≤◌, ◌<◌, ◌++◌, ⊤, Bool, true, false, List, [], ◌∷◌, map, length}
use Rattle.std.specs.Prelude.{Option, Some, None, slice_get}
use Rattle.std.specs.Global.{Vec}
use Rattle.std.specs.List.{filter}
use Rattle.wasm_code.specs.declared.operator.Operator.{Operator}
use Rattle.wasm_execution.specs.declared.integer.IntegerType.{IntegerType}
use Rattle.wasm_execution.specs.Values.{Context}
use Rattle.rewrite_rules.specs.declared.table.Row.{Row}
use Rattle.rewrite_rules.specs.Table.{ROWS, needs_exact}
use Rattle.body_rewrites.specs.declared.asked.Asked.{Asked}
use Rattle.body_rewrites.specs.declared.asked.Form.{Form}
use Rattle.body_rewrites.specs.declared.asked.Form.TheVariants.{Own, Alone, Other}
use Rattle.body_rewrites.specs.declared.here.Here.{Here}
use Rattle.body_rewrites.specs.declared.rewrite.Rewrite.{Rewrite}
use Rattle.body_rewrites.specs.declared.root.Root.{Root}
use Rattle.body_rewrites.specs.Alone.{form_of}
use Rattle.body_rewrites.specs.Cutting.{IsTreeTold}
use Rattle.body_rewrites.specs.Rewrites.{asked_widths, IsAsked}
use Rattle.body_rewrites.specs.Roots.{root_of, fits, IsClassAt}

-- ---- lines

-- that of the row with the number for the width
abbrev pub asked_as : (number : ℕ) → Row → IntegerType → Asked
asked_as number row width = record {
  number = number;
  form = form_of row;
  root = root_of (record { row = row; width = width });
  line = record { row = row; width = width };
}

-- those of the row
abbrev pub asked_for : (number : ℕ) → Row → List Asked
asked_for number row = map (asked_as number row) (asked_widths row.widths)

-- those of the row that is there, where one is
abbrev pub asked_in : (number : ℕ) → Option Row → List Asked
asked_in number None = []
asked_in number (Some row) = asked_for number row

abbrev pub asked_from : (number : ℕ) → List Row → List Asked
asked_from number [] = []
asked_from number (row ∷ rows) = asked_for number row ++ asked_from (suc number) rows

-- all of them, by the row and the width
abbrev pub all_asked : List Asked
all_asked = asked_from 0 ROWS

-- It is a row of the table for one of its widths, with what it is, and its root.
pub record IsAskedSo (asked : Asked) : Type 0 where
  pub line : IsAsked asked.number asked.line
  pub form_is : asked.form ≡ form_of asked.line.row
  pub root_is : asked.root ≡ root_of asked.line

-- each of them is
abbrev pub AreAsked : List Asked → Type 0
AreAsked list = (n : ℕ) (asked : Asked) → slice_get list n ≡ Some asked → IsAskedSo asked

-- the rewrite of the operator that one is asked for
abbrev pub rewrite_of : (at : ℕ) → Asked → Rewrite
rewrite_of at asked = record { operator = at; row = asked.number; width = asked.line.width }

abbrev pub rewrites_of : (at : ℕ) → List Asked → List Rewrite
rewrites_of at list = map (rewrite_of at) list

-- ---- those that are ready

-- what runs the module is exact where the row has to be; rows beside the table, and those of an operand alone, are ready always
abbrev pub is_ready_by : (exact : Bool) → Row → Form → Bool
is_ready_by exact row Other = exact || not (needs_exact row)
is_ready_by exact row form = true

abbrev pub is_ready : (exact : Bool) → Asked → Bool
is_ready exact asked = is_ready_by exact asked.line.row asked.form

abbrev pub ready_lines : (exact : Bool) → List Asked
ready_lines exact = filter (is_ready exact) all_asked

-- ---- where they are asked

-- It is an operator of the body, with its class, and whether a tree ends with it.
pub record IsHere (context : Context) (operators : List (Operator × ℕ)) (here : Here) : Type 0 where
  pub inside : here.at < length operators
  pub class_is : IsClassAt operators here.at here.class
  pub tree_is : IsTreeTold context operators here.at here.is_tree

-- ---- which of them are asked where an instruction of a class stands

-- the line may apply there, its left side is no operand alone, and what runs the module is exact where the row has to be
abbrev pub by_form : (exact : Bool) → Row → Form → Bool → Bool
by_form exact row (Own o) b = b
by_form exact row (Alone doubles) b = false
by_form exact row Other b = (exact || not (needs_exact row)) && b

abbrev pub is_candidate : (exact : Bool) → (class : ℕ) → Asked → Bool
is_candidate exact class asked = by_form exact asked.line.row asked.form (fits class true asked.root)

-- its left side is one
abbrev pub form_alone : Form → Bool
form_alone (Alone doubles) = true
form_alone form = false

abbrev pub is_alone : Asked → Bool
is_alone asked = form_alone asked.form

abbrev pub candidates : (exact : Bool) → (class : ℕ) → List Asked
candidates exact class = filter (is_candidate exact class) all_asked

-- the class is marked
abbrev pub IsUsed : (used : List Bool) → (class : ℕ) → Type 0
IsUsed used class = slice_get used class ≡ Some true

-- no instruction of a marked class may stand where a line with the root applies, and where one of the row applies for these widths
abbrev pub NoneStands : (used : List Bool) → Root → Type 0
NoneStands used root = (class : ℕ) → IsUsed used class → fits class true root ≡ false

abbrev pub NoneServes : (used : List Bool) → Row → List IntegerType → Type 0
NoneServes used row [] = ⊤
NoneServes used row (w ∷ ws) = NoneStands used (root_of (record { row = row; width = w })) × NoneServes used row ws

-- From the first to before the second are the classes where a line with the root may apply, and where the line is a candidate.
abbrev pub AreRootClasses : Root → (classes : ℕ × ℕ) → Type 0
AreRootClasses root classes = (class : ℕ) → class < 447 → (fits class true root ≡ true) ↔ ((classes.0 ≤ class) × (class < classes.1))

abbrev pub AreCandidateClasses : (exact : Bool) → Asked → (classes : ℕ × ℕ) → Type 0
AreCandidateClasses exact asked classes = (class : ℕ) → class < 447 → (is_candidate exact class asked ≡ true) ↔ ((classes.0 ≤ class) × (class < classes.1))

-- there are so many lists, all of them empty
pub record AreEmpty (count : ℕ) (lists : List (Vec Asked)) : Type 0 where
  pub long : length lists ≡ count
  pub each : (class : ℕ) (v : Vec Asked) → slice_get lists class ≡ Some v → v.items ≡ []

-- The lists of marked classes, from the first to before the second of these, have the line more, and others are as they were.
pub record AddsLine (asked : Asked) (used : List Bool) (classes : ℕ × ℕ) (old new : List (Vec Asked)) : Type 0 where
  pub long : length new ≡ length old
  pub within : (class : ℕ) (v : Vec Asked) → classes.0 ≤ class → class < classes.1 → IsUsed used class → slice_get new class ≡ Some v →
      (w : Vec Asked) × (slice_get old class ≡ Some w) × (v.items ≡ w.items ++ asked ∷ [])
  pub beyond : (class : ℕ) → (class < classes.0) ⊎ (classes.1 ≤ class) → slice_get new class ≡ slice_get old class

-- There is a list for each class, with the candidates among the lines where the class is marked.
pub record AreLists (exact : Bool) (used : List Bool) (lines : List Asked) (lists : List (Vec Asked)) : Type 0 where
  pub long : length lists ≡ 447
  pub each : (class : ℕ) (v : Vec Asked) → slice_get lists class ≡ Some v → IsUsed used class → v.items ≡ filter (is_candidate exact class) lines

-- So there is, and a list of those lines that are of an operand alone.
pub record AreLaidOut (exact : Bool) (used : List Bool) (lines : List Asked) (lists : List (Vec Asked)) (alone : List Asked) : Type 0 where
  pub by_class : AreLists exact used lines lists
  pub apart : alone ≡ filter is_alone lines
