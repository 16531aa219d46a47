-- A module changed at operators that are named, from the last one down (this project).
use Rattle.std.specs.Prelude.{◌≡◌, ⊤, false, ◌+◌, ◌<◌, ◌≤◌, ℕ, min, List, [], ◌∷◌, length, Some}
use Rattle.wasm_code.specs.declared.operator.Operator.{Operator}
use Rattle.wasm_types.specs.Module.{Module}
use Rattle.wasm_types.specs.declared.types.PrimitiveTypeInfo.{PrimitiveTypeInfo}
use Rattle.wasm_module.specs.Fault.{IsModuleFault}
use Rattle.wasm_module.specs.Module.{Layout, IsModule}
use Rattle.wasm_execution.specs.Values.{Context, context_in}
use Rattle.body_changes.specs.Chosen.{Changes, NoneWithin}
use Rattle.body_changes.specs.Kinds.{Material}
use Rattle.body_changes.specs.declared.change.Change.{Change}
use Rattle.module_rewrites.specs.Attempt.{RefusesIndexOf}
use Rattle.module_rewrites.specs.Function.{IsFunction}
use Rattle.module_rewrites.specs.declared.attempt.Reason.TheVariants as reasons
use Rattle.module_rewrites.specs.declared.function.FunctionBody.{FunctionBody}
use Rattle.module_changes.specs.Changed.{ChangeDoesNotFit, MakesChange}
use Rattle.module_changes.specs.Scope.{Choice}
use Rattle.module_changes.specs.declared.entry.MadeChange.{MadeChange}
use Rattle.module_changes.specs.declared.entry.Reading.{Reading}
use Rattle.module_changes.specs.declared.placed.ChangeAt.{ChangeAt}
use Rattle.module_changes.specs.declared.refusal.Refusal.{Refusal}
use Rattle.module_changes.specs.declared.refusal.Refusal.TheVariants.{Memory, NoChange, NoFunction, Read, TooLarge, UnknownImport}

-- ---- one operator

-- the least that new code is made of: one instruction that is drawn, and nothing is copied
abbrev pub least : Material
least = record { most = 1; copied = [] }

-- The change makes something of the operator, by no words: of a value that is drawn one instruction.
abbrev pub ChangeMakesAt : Context → List (Operator × ℕ) → Change → (at : ℕ) → Type 0
ChangeMakesAt context operators change at = Changes context operators least [] change at

-- this change alone, in this function alone
abbrev pub choice_at : ChangeAt → (size : ℕ) → Choice
choice_at at size = record { scope = record { changes = at.change ∷ []; function = Some at.function; most = 1; size = size }; copied = [] }

-- the words that name the change, and the operator
abbrev pub words_at : (operator : ℕ) → List ℕ
words_at operator = 0 ∷ operator ∷ []

-- The module becomes the new bytes by the change of the last of the operators of which it makes anything.
pub record ChangesLast (at : ChangeAt) (size : ℕ) (bytes : List ℕ) (made : MadeChange) (new : List ℕ) : Type 0 where
  pub info : Module
  pub layout : Layout
  pub is : IsModule bytes info layout
  pub exact : info.exact ≡ false
  pub n : ℕ
  pub function_is : layout.imported_functions + n ≡ at.function
  pub change_is : made.change ≡ at.change
  pub behind : at.first ≤ made.operator
  pub before : made.operator < at.end
  pub makes : MakesChange (choice_at at size) bytes info layout (words_at made.operator) n made new
  pub last : NoneWithin (ChangeMakesAt (context_in info makes.writes.locals) makes.writes.operators at.change) (made.operator + 1)
      (min at.end (length makes.writes.operators))

-- It makes nothing of any of them, or the function can't be read.
pub record MakesNone (at : ChangeAt) (bytes : List ℕ) : Type 0 where
  pub info : Module
  pub layout : Layout
  pub is : IsModule bytes info layout
  pub exact : info.exact ≡ false
  pub n : ℕ
  pub inside : n < length layout.entries
  pub function_is : layout.imported_functions + n ≡ at.function
  pub none : (locals : List PrimitiveTypeInfo) (expression : ℕ) (operators : List (Operator × ℕ)) →
      IsFunction bytes info layout n locals expression operators →
      NoneWithin (ChangeMakesAt (context_in info locals) operators at.change) at.first (min at.end (length operators))

-- What it makes of the last one of which it makes anything doesn't fit.
pub record IsLargeAt (at : ChangeAt) (size : ℕ) (bytes : List ℕ) : Type 0 where
  pub info : Module
  pub layout : Layout
  pub is : IsModule bytes info layout
  pub exact : info.exact ≡ false
  pub n : ℕ
  pub function_is : layout.imported_functions + n ≡ at.function
  pub operator : ℕ
  pub behind : at.first ≤ operator
  pub before : operator < at.end
  pub large : ChangeDoesNotFit (choice_at at size) bytes info layout (words_at operator) n
  pub operator_is : large.made.operator ≡ operator
  pub last : NoneWithin (ChangeMakesAt (context_in info large.writes.locals) large.writes.operators at.change) (operator + 1)
      (min at.end (length large.writes.operators))

-- why none of them is changed
abbrev pub RefusesLast : ChangeAt → (size : ℕ) → (bytes : List ℕ) → Refusal → Type 0
RefusesLast at size bytes (Read e) = IsModuleFault bytes e.kind e.offset
RefusesLast at size bytes (NoFunction function) = RefusesIndexOf (Some at.function) bytes (reasons.NoFunction function)
RefusesLast at size bytes (UnknownImport e) = RefusesIndexOf (Some at.function) bytes (reasons.UnknownImport e)
RefusesLast at size bytes NoChange = MakesNone at bytes
RefusesLast at size bytes TooLarge = IsLargeAt at size bytes
RefusesLast at size bytes Memory = ⊤

-- ---- one after another

-- those of the operators that stand before this one
abbrev pub up_to : ChangeAt → (end : ℕ) → ChangeAt
up_to at end = record { change = at.change; function = at.function; first = at.first; end = end }

-- These changes are made, one after another: each other one of the module that the one before it left, and of operators before the code that that one put in.
-- The operators before `left` are still to be changed.
abbrev pub ChangesDown : ChangeAt → (size : ℕ) → (bytes : List ℕ) → List MadeChange → (new : List ℕ) → (left : ℕ) → Type 0
ChangesDown at size bytes [] new left = (new ≡ bytes) × (left ≡ at.end)
ChangesDown at size bytes (m ∷ ms) new left = (next : List ℕ) × ChangesLast at size bytes m next × ChangesDown (up_to at m.start) size next ms new left

-- The module becomes the new bytes by all of them, one at least.
pub record ChangesAt (at : ChangeAt) (size : ℕ) (bytes : List ℕ) (made : List MadeChange) (new : List ℕ) : Type 0 where
  pub some : 0 < length made
  pub left : ℕ
  pub down : ChangesDown at size bytes made new left
  pub none : MakesNone (up_to at left) new

-- Why it doesn't: there are none, or one of them is refused.
pub record RefusesAt (at : ChangeAt) (size : ℕ) (bytes : List ℕ) (refusal : Refusal) : Type 0 where
  pub made : List MadeChange
  pub middle : List ℕ
  pub left : ℕ
  pub down : ChangesDown at size bytes made middle left
  pub why : RefusesLast (up_to at left) size middle refusal
  pub nothing : refusal ≡ NoChange → made ≡ []

-- ---- for private functions

-- the change makes something of the operator of the function that was read
abbrev pub MakesIn : Reading → FunctionBody → Change → (at : ℕ) → Type 0
MakesIn reading function change at = ChangeMakesAt (context_in reading.info.now function.locals.items) function.operators.items change at
