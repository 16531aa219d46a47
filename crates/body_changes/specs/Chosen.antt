-- Which change of a body words choose (this project).
use Rattle.std.specs.Prelude.{◌≡◌, ◌%◌, ◌<◌, ◌≤◌, ℕ, List, length, drop, get_or, Some, slice_get}
use Rattle.wasm_code.specs.Instruction.{Instruction}
use Rattle.wasm_code.specs.declared.operator.Operator.{Operator}
use Rattle.wasm_execution.specs.Values.{Context}
use Rattle.body_changes.specs.declared.change.Change.{Change}
use Rattle.body_changes.specs.Kinds.{IsChange, Material, WordsNameCode}

-- the change makes something of the operator at `at`
abbrev pub Changes : Context → List (Operator × ℕ) → Material → (words : List ℕ) → Change → (at : ℕ) → Type 0
Changes context operators material words change at =
    (start : ℕ) × (code : List Instruction) × IsChange context operators material words change at start code

-- none of these numbers is one for which that holds
abbrev pub NoneWithin : (Holds : ℕ → Type 0) → (from to : ℕ) → Type 0
NoneWithin Holds from to = (k : ℕ) → from ≤ k → k < to → ¬ (Holds k)

-- It is the first number for which that holds, from `from` on below `count`, and then from 0 on.
pub data IsFirstFrom (Holds : ℕ → Type 0) (count from n : ℕ) : Type 0 where
  behind : from ≤ n → n < count → Holds n → NoneWithin Holds from n → IsFirstFrom Holds count from n
  before : n < from → Holds n → NoneWithin Holds from count → NoneWithin Holds 0 n → IsFirstFrom Holds count from n

-- the change makes something of some operator
abbrev pub ChangesAny : Context → List (Operator × ℕ) → Material → (words : List ℕ) → Change → Type 0
ChangesAny context operators material words change = (at : ℕ) × (at < length operators) × Changes context operators material words change at

-- the change with the number does
abbrev pub NumberChanges : Context → List (Operator × ℕ) → Material → (words : List ℕ) → List Change → ℕ → Type 0
NumberChanges context operators material words changes k = (change : Change) × (slice_get changes k ≡ Some change)
    × ChangesAny context operators material words change

-- The words choose this change of the operator at `at`: of the changes the first one from that on that the first word names which makes something, of the
-- operators the first one from that on that the second word names of which it does; and where the words behind them name the code, that code.
pub record ChoosesChange (context : Context) (operators : List (Operator × ℕ)) (material : Material) (changes : List Change) (words : List ℕ) (change : Change)
    (at start : ℕ) (code : List Instruction) : Type 0 where
  pub number : ℕ
  pub is_change : slice_get changes number ≡ Some change
  pub first : IsFirstFrom (NumberChanges context operators material (drop 2 words) changes) (length changes) (get_or words 0 0 % length changes) number
  pub place : IsFirstFrom (Changes context operators material (drop 2 words) change) (length operators) (get_or words 1 0 % length operators) at
  pub is : IsChange context operators material (drop 2 words) change at start code
  pub named : (s : ℕ) (other : List Instruction) (is : IsChange context operators material (drop 2 words) change at s other) →
      WordsNameCode context change is.unit (drop 2 words) other → code ≡ other

-- no change makes anything of any operator
abbrev pub ChangesNone : Context → List (Operator × ℕ) → Material → List Change → (words : List ℕ) → Type 0
ChangesNone context operators material changes words =
    (k : ℕ) → k < length changes → ¬ (NumberChanges context operators material (drop 2 words) changes k)
