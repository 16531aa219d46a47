-- How many rewrites of a body there are by each rule that do each thing to the number of operators, as they are counted. For private functions (this project).
use Rattle.std.specs.Prelude.{◌≡◌, ◌+◌, ◌*◌, ◌^◌, ◌≤◌, ◌<◌, ◌==◌, ◌++◌, if◌then◌else◌, ℕ, zero, suc, List, [], ◌∷◌, Bool, false, length}
use Rattle.std.specs.Prelude.{Option, Some, None, option_map, option_to_list, Contains, Result, Ok, Err, slice_get}
use Rattle.std.specs.List.{filter}
use Rattle.std.specs.Option.{option_flatten}
use Rattle.wasm_code.specs.declared.operator.Operator.{Operator}
use Rattle.wasm_execution.specs.Values.{Context}
use Rattle.rewrite_rules.specs.declared.rule.Rule.{Rule}
use Rattle.rewrite_rules.specs.Names.{names, rule_of}
use Rattle.rewrite_rules.specs.Rule.{rule_number}
use Rattle.wasm_types.specs.declared.types.PrimitiveTypeInfo.{PrimitiveTypeInfo}
use Rattle.body_rewrites.specs.declared.asked.Asked.{Asked}
use Rattle.body_rewrites.specs.declared.asked.Form.{Form}
use Rattle.body_rewrites.specs.declared.asked.Form.TheVariants.{Alone}
use Rattle.body_rewrites.specs.declared.found.Found.{Found}
use Rattle.body_rewrites.specs.declared.trees.Tree.{Tree}
use Rattle.body_rewrites.specs.declared.growth.Growth.{Growth}
use Rattle.body_rewrites.specs.declared.growth.Growth.TheVariants.{Shrinks, Keeps, Grows}
use Rattle.body_rewrites.specs.declared.rewrite.Rewrite.{Rewrite}
use Rattle.body_rewrites.specs.Rewrites.{asked_below}
use Rattle.body_rewrites.specs.Alone.{takes}
use Rattle.body_rewrites.specs.Asking.{all_asked, rewrites_of, IsUsed}
use Rattle.body_rewrites.specs.Listing.{AreThose, AreFound}
use Rattle.body_rewrites.specs.Roots.{class_told}
use Rattle.body_rewrites.specs.Choice.{IsOf}

-- ---- where something is counted

abbrev pub growth_number : Growth → ℕ
growth_number Shrinks = 0
growth_number Keeps = 1
growth_number Grows = 2

-- the place of the count for the rule with the number and what becomes of the number of operators
abbrev pub slot_of : (number : ℕ) → Growth → ℕ
slot_of number growth = 3 * number + growth_number growth

-- that for what is found
abbrev pub slot_in : Found → Option ℕ
slot_in found = option_map (λ number. slot_of number found.growth) (rule_of found.rewrite.row)

-- whether it is that one
abbrev pub is_slot : (slot : ℕ) → Option ℕ → Bool
is_slot slot None = false
is_slot slot (Some other) = other == slot

abbrev pub is_in_slot : (slot : ℕ) → Found → Bool
is_in_slot slot found = is_slot slot (slot_in found)

-- ---- one more

-- At each place so many more are counted.
pub record AddsCounts (more : ℕ → ℕ) (old new : List ℕ) : Type 0 where
  pub count : length new ≡ length old
  pub each : (slot n : ℕ) → slice_get old slot ≡ Some n → slice_get new slot ≡ Some (n + more slot)

-- how many of those that are found are counted at a place
abbrev pub count_in : List Found → (slot : ℕ) → ℕ
count_in found slot = length (filter (is_in_slot slot) found)

-- Those of the rewrites that make something are counted, each at its place.
pub record CountsFound (context : Context) (operators : List (Operator × ℕ)) (items : List Rewrite) (old new : List ℕ) : Type 0 where
  pub found : List Found
  pub are : AreFound context operators items found
  pub adds : AddsCounts (count_in found) old new

-- so many more can be counted at each place
abbrev pub HaveRoom : (room : ℕ) → List ℕ → Type 0
HaveRoom room counts = (slot n : ℕ) → slice_get counts slot ≡ Some n → n + room < 2 ^ 128

-- ---- what lines of an operand alone make of trees

-- a tree of the type that writes, or does nothing but leave its value
abbrev pub sample : PrimitiveTypeInfo → (writes : Bool) → Tree
sample t writes = record { start = 0; gives = t; writes = writes; traps = false; asks = false }

-- the place of the count for what such a line makes of the tree, where it makes something
abbrev pub by_alone : Tree → Asked → Form → Option ℕ
by_alone tree asked (Alone doubles) =
    if takes asked.line.width doubles tree then option_map (λ number. slot_of number Grows) (rule_of asked.number) else None
by_alone tree asked form = None

abbrev pub alone_slot : Tree → Asked → Option ℕ
alone_slot tree asked = by_alone tree asked asked.form

-- those of some lines
abbrev pub alone_slots : Tree → List Asked → List ℕ
alone_slots tree [] = []
alone_slots tree (asked ∷ list) = option_to_list (alone_slot tree asked) ++ alone_slots tree list

-- how often a place is among these
abbrev pub slots_in : List ℕ → (slot : ℕ) → ℕ
slots_in slots slot = length (filter (λ other. other == slot) slots)

-- those of the tree that the operator has, by the list of trees
abbrev pub of_tree : Option Tree → List ℕ
of_tree None = []
of_tree (Some tree) = alone_slots tree all_asked

abbrev pub alone_told : List (Option Tree) → (at : ℕ) → List ℕ
alone_told trees at = of_tree (option_flatten (slice_get trees at))

-- The classes of the body's operators are marked.
pub record AreUsed (operators : List (Operator × ℕ)) (used : List Bool) : Type 0 where
  pub count : length used ≡ 447
  pub each : (at : ℕ) → at < length operators → IsUsed used (class_told operators at)

-- what lines are laid out for: the classes that are marked, and whether what runs the module is exact
pub record Laying : Type 0 where
  pub used : List Bool
  pub exact : Bool

-- They are laid out for the body: its classes are marked, and it is told whether what runs its module is exact.
pub record AreFor (context : Context) (operators : List (Operator × ℕ)) (laying : Laying) : Type 0 where
  pub used : AreUsed operators laying.used
  pub exact : laying.exact ≡ context.info.exact

-- ---- the counts of a body

-- what is counted for the rule and what becomes of the number of operators
abbrev pub HasCount : List ℕ → Growth → Rule → ℕ → Type 0
HasCount counts growth rule n = slice_get counts (slot_of (rule_number rule) growth) ≡ Some n

-- Of the rewrites of the operators before `end`, those by the rule that do that to the number of operators are as many as is counted.
pub record RewritesAreCounted (context : Context) (operators : List (Operator × ℕ)) (end : ℕ) (counts : List ℕ) (growth : Growth) (rule : Rule) : Type 0 where
  pub those : List Rewrite
  pub are : AreThose (IsOf context operators growth rule) (asked_below end) those
  pub count : HasCount counts growth rule (length those)

-- So it is of each rule.
pub record AreCounts (context : Context) (operators : List (Operator × ℕ)) (end : ℕ) (counts : List ℕ) : Type 0 where
  pub count : length counts ≡ 3 * length names
  pub each : (growth : Growth) (rule : Rule) → RewritesAreCounted context operators end counts growth rule
  pub most : (slot n : ℕ) → slice_get counts slot ≡ Some n → n ≤ length (asked_below end)

-- some rewrite by the rule is counted that does that to the number of operators
pub record IsOpenBy (counts : List ℕ) (growth : Growth) (rule : Rule) : Type 0 where
  pub n : ℕ
  pub count : HasCount counts growth rule n
  pub some : 0 < n

-- one of the rules has such a rewrite
abbrev pub HasOpenBy : List ℕ → List Rule → Growth → Type 0
HasOpenBy counts rules growth = (rule : Rule) × Contains rules rule × IsOpenBy counts growth rule

-- ---- the rewrites of one rule

-- the line is of the rule
abbrev pub is_number : (number : ℕ) → Option ℕ → Bool
is_number number None = false
is_number number (Some other) = other == number

abbrev pub is_of : Rule → Asked → Bool
is_of rule asked = is_number (rule_number rule) (rule_of asked.number)

-- what may be asked of the operators before `end` by some lines
abbrev pub asked_of : List Asked → (end : ℕ) → List Rewrite
asked_of list zero = []
asked_of list (suc at) = asked_of list at ++ rewrites_of at list

-- ---- the item with a number

-- It is that with the number, or as many are left behind all of them.
abbrev pub FindsIn : (number : ℕ) → List Rewrite → Result Rewrite ℕ → Type 0
FindsIn number list (Ok r) = slice_get list number ≡ Some r
FindsIn number list (Err left) = length list + left ≡ number
