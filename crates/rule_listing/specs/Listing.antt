-- The rules of the table, as they are listed (this project).
use Rattle.std.specs.Prelude.{◌≡◌, ◌≢◌, ◌↔◌, ℕ, zero, suc, ◌+◌, Bool, true, false, List, [], ◌∷◌, ◌++◌, length, map, codes, decimal, Option}
use Rattle.std.specs.Prelude.{Some, None, IsTrue, slice_get, ◌==◌, if◌then◌else◌}
use Rattle.serde_json.specs.Data.{Data, member, no_members, boolean, number, object, string, array, unsigned}
use Rattle.serde_json.specs.View.{items_of}
use Rattle.serde_json.specs.Written.{compact_text}
use Rattle.rewrite_rules.specs.declared.growth.Growth.{Growth}
use Rattle.rewrite_rules.specs.declared.growth.Growth.TheVariants.{Shrinks, Keeps, Grows}
use Rattle.rewrite_rules.specs.declared.table.Row.{Row}
use Rattle.rewrite_rules.specs.declared.table.Widths.{Widths}
use Rattle.rewrite_rules.specs.declared.table.Widths.TheVariants.{Own}
use Rattle.rewrite_rules.specs.Access.{own_needs_exact}
use Rattle.rewrite_rules.specs.Growing.{GrowsAs}
use Rattle.rewrite_rules.specs.Names.{names, rule_of}
use Rattle.rewrite_rules.specs.Table.{ROWS, needs_exact}
use Rattle.rule_listing.specs.declared.form.Form.{Form}
use Rattle.rule_listing.specs.declared.form.Form.TheVariants.{Text, Json, Markdown}

-- ---- what is told

-- of a rule: what it does to the number of instructions, whether it needs an engine that is exact, and the texts of its rows
pub record Told : Type 0 where
  pub growth : Growth
  pub exact : Bool
  pub lines : List (List ℕ)

-- 1 for that rule
abbrev pub counted : Option ℕ → (rule : ℕ) → ℕ
counted None rule = 0
counted (Some m) rule = if m == rule then 1 else 0

-- how many of the first `n` rows are rows of the rule
abbrev pub rows_among : (rule n : ℕ) → ℕ
rows_among rule zero = 0
rows_among rule (suc n) = rows_among rule n + counted (rule_of n) rule

-- It has an exact row, or is of a rule beside the table that needs an engine that is exact.
abbrev pub is_exact_by : Widths → Row → Bool
is_exact_by (Own o) row = own_needs_exact o
is_exact_by w row = needs_exact row

abbrev pub is_exact_row : Row → Bool
is_exact_row row = is_exact_by row.widths row

-- Each row of the rule needs an engine that is exact.
abbrev pub NeedsExact : (rule : ℕ) → Type 0
NeedsExact rule = (n : ℕ) (row : Row) → rule_of n ≡ Some rule → slice_get ROWS n ≡ Some row → IsTrue (is_exact_row row)

-- There are as many texts as rows, where something is said of the number of instructions, it holds of each row, and the rule is told to
-- need an engine that is exact where each row does.
pub record RuleIsTold (rule : ℕ) (told : Told) : Type 0 where
  pub count : length told.lines ≡ rows_among rule (length ROWS)
  pub grows : (n : ℕ) (row : Row) → rule_of n ≡ Some rule → slice_get ROWS n ≡ Some row → told.growth ≢ Grows → GrowsAs row told.growth
  pub exact : IsTrue told.exact ↔ NeedsExact rule

-- It is told of each rule, by their numbers.
pub record AreTold (told : List Told) : Type 0 where
  pub count : length told ≡ length names
  pub each : (n : ℕ) (t : Told) → slice_get told n ≡ Some t → RuleIsTold n t

-- the word for it
abbrev pub growth_word : Growth → List ℕ
growth_word Shrinks = codes "shrinks"
growth_word Keeps = codes "keeps"
growth_word Grows = codes "grows"

-- the word for a rule that needs an engine that is exact, behind others
abbrev pub exact_word : Bool → List ℕ
exact_word true = codes " --exact"
exact_word false = []

-- ---- text: a line a rule, and under it, indented, its lines

-- one of its lines
abbrev pub text_line : (line : List ℕ) → List ℕ
text_line line = codes "  " ++ (line ++ codes "\n")

-- its lines
abbrev pub text_lines : List (List ℕ) → List ℕ
text_lines [] = []
text_lines (line ∷ lines) = text_line line ++ text_lines lines

-- all that is written of a rule
unfoldable pub rule_block : (n : ℕ) → (name : List ℕ) → Told → List ℕ
rule_block n name told =
    decimal n ++ (codes " " ++ (name ++ (codes " " ++ (growth_word told.growth ++ (exact_word told.exact
    ++ (codes "\n" ++ text_lines told.lines))))))

-- ---- JSON: an object a line

-- a rule, its members in the order of their names
abbrev pub rule_object : (n : ℕ) → (name : List ℕ) → Told → Data
rule_object n name told =
    object (member (codes "exact") (boolean told.exact)
    (member (codes "growth") (string (growth_word told.growth))
    (member (codes "lines") (array (items_of (map string told.lines)))
    (member (codes "name") (string name)
    (member (codes "number") (number (unsigned n)) no_members)))))

-- its line
unfoldable pub object_line : (n : ℕ) → (name : List ℕ) → Told → List ℕ
object_line n name told = compact_text (rule_object n name told) ++ codes "\n"

-- ---- Markdown: a table, with a row for each text, the first of which has the rest in front

-- what stands before the rules
abbrev pub head : List ℕ
head = codes "| Number | Rule | Instructions | Needs | Lines |\n|---|---|---|---|---|\n"

-- what a rule needs
abbrev pub exact_cell : Bool → List ℕ
exact_cell true = codes "`--exact` "
exact_cell false = []

-- what stands between the texts
abbrev pub between : (n : ℕ) → List ℕ
between n = if n == 0 then [] else codes " |\n| | | | | "

-- the text with that number
abbrev pub table_cell_text : (n : ℕ) → (line : List ℕ) → List ℕ
table_cell_text n line = between n ++ (codes "`" ++ (line ++ codes "`"))

-- texts, of which the first one has that number
abbrev pub cells : (n : ℕ) → List (List ℕ) → List ℕ
cells n [] = []
cells n (line ∷ lines) = table_cell_text n line ++ cells (n + 1) lines

-- the rows of a rule
unfoldable pub rule_rows : (n : ℕ) → (name : List ℕ) → Told → List ℕ
rule_rows n name told =
    codes "| " ++ (decimal n ++ (codes " | `" ++ (name ++ (codes "` | " ++ (growth_word told.growth
    ++ (codes " | " ++ (exact_cell told.exact ++ (codes "| " ++ (cells 0 told.lines ++ codes " |\n")))))))))

-- ---- in each form

-- what stands before the rules
abbrev pub head_text : Form → List ℕ
head_text Text = []
head_text Json = []
head_text Markdown = head

-- a rule
abbrev pub rule_text : Form → (n : ℕ) → (name : List ℕ) → Told → List ℕ
rule_text Text n name told = rule_block n name told
rule_text Json n name told = object_line n name told
rule_text Markdown n name told = rule_rows n name told

-- rules one behind another, the first of which has that number
abbrev pub rules_text : Form → (n : ℕ) → List (List ℕ) → List Told → List ℕ
rules_text form n [] told = []
rules_text form n (name ∷ rest) [] = []
rules_text form n (name ∷ rest) (t ∷ told) = rule_text form n name t ++ rules_text form (n + 1) rest told

-- all of them
abbrev pub listing : Form → List Told → List ℕ
listing form told = head_text form ++ rules_text form 0 names told
