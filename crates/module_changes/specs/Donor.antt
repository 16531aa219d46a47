-- Code that is copied: of which module, and which of its code (this project).
use Rattle.std.specs.Prelude.{◌≡◌, ◌≤◌, ℕ, Bool, false, List, [], length, get_or, Some, slice_get, IsTrue}
use Rattle.wasm_code.specs.Instruction.{Instruction}
use Rattle.wasm_code.specs.declared.operator.Operator.{Operator}
use Rattle.wasm_types.specs.Module.{Module}
use Rattle.wasm_types.specs.declared.types.PrimitiveTypeInfo.{PrimitiveTypeInfo}
use Rattle.wasm_module.specs.Module.{Layout}
use Rattle.wasm_execution.specs.Values.{context_in}
use Rattle.body_changes.specs.Copied.{IsUnitNamed}
use Rattle.body_changes.specs.Drawing.{AskTypesAlone}
use Rattle.body_changes.specs.declared.change.Change.{Change}
use Rattle.body_changes.specs.declared.change.Change.TheVariants.{Copy}
use Rattle.module_rewrites.specs.Drawing.{WordNames}
use Rattle.module_rewrites.specs.Function.{IsFunction}

-- a module of which code is copied; where `plain` is true, only such code of which the standard asks nothing beyond its types
pub record Donor : Type 0 where
  pub bytes : List ℕ
  pub info : Module
  pub layout : Layout
  pub plain : Bool

-- A module may have any code of its own: whatever it asks was asked of the module already.
abbrev pub itself : (bytes : List ℕ) → Module → Layout → Donor
itself bytes info layout = record { bytes = bytes; info = info; layout = layout; plain = false }

-- how many instructions code that is copied may have at most, since each function that is tried looks at it
abbrev pub most_copied : ℕ
most_copied = 100

-- That is the code of the unit of an operator of the n-th code entry's function, which the fifth word names.
pub record Copies (donor : Donor) (words : List ℕ) (n : ℕ) (code : List Instruction) : Type 0 where
  pub locals : List PrimitiveTypeInfo
  pub expression : ℕ
  pub operators : List (Operator × ℕ)
  pub function : IsFunction donor.bytes donor.info donor.layout n locals expression operators
  pub is : IsUnitNamed (context_in donor.info locals) operators (get_or words 4 0) code
  pub few : length code ≤ most_copied
  pub plain : IsTrue donor.plain → AskTypesAlone code

-- The code that may be copied, by these words: the fourth one names a code entry by its size, and of that it is the code that the fifth one names, or none
-- where there is none.
pub data IsCopied (donor : Donor) (words : List ℕ) (code : List Instruction) : Type 0 where
  taken : (n : ℕ) → WordNames (get_or words 3 0) donor.layout.entries n → Copies donor words n code → IsCopied donor words code
  nothing : (n : ℕ) → WordNames (get_or words 3 0) donor.layout.entries n → ((c : List Instruction) → ¬ (Copies donor words n c)) → code ≡ [] →
      IsCopied donor words code
  empty : length donor.layout.entries ≡ 0 → code ≡ [] → IsCopied donor words code

-- code may be copied: that is one of the changes
abbrev pub MayCopy : List Change → Type 0
MayCopy changes = (k : ℕ) × (slice_get changes k ≡ Some Copy)

-- then it is that code
abbrev pub IsCopiedBy : Donor → (changes : List Change) → (words : List ℕ) → List Instruction → Type 0
IsCopiedBy donor changes words code = MayCopy changes → IsCopied donor words code
