-- Lists with items of forms that aren't known here (this project): what is known of them ends before the first such item.
use Rattle.std.specs.Prelude.{◌≡◌, ℕ, List, [], length, Option, Some, None}
use Rattle.wasm_code.specs.declared.fault.Cause.{Cause}
use Rattle.wasm_code.specs.declared.fault.Cause.TheVariants.{Truncated, UnknownOpcode, BadInteger, BadImmediate}
use Rattle.wasm_sections.specs.declared.fault.ModuleError.{ModuleError}
use Rattle.wasm_sections.specs.declared.fault.ModuleFault.{ModuleFault}
use Rattle.wasm_sections.specs.declared.fault.ModuleFault.TheVariants as faults
use Rattle.wasm_lists.specs.List.{SpellsList, ItemFails, IsListFault, fault_of}

-- What is known of a list: the number that it gives of its items, the items before the first of an unknown form, and where and why that one isn't known.
pub record Known (A : Type 0) : Type 0 where
  pub count : ℕ
  pub items : List A
  pub unknown : Option ModuleError

-- nothing is listed
abbrev pub nothing_listed : {A : Type 0} → Known A
nothing_listed = record { count = 0; items = []; unknown = None }

-- bytes name nothing that is known here: a form, or an operator
abbrev pub CauseIsUnknown : Cause → Type 0
CauseIsUnknown Truncated = ⊥
CauseIsUnknown UnknownOpcode = Unit {0}
CauseIsUnknown BadInteger = ⊥
CauseIsUnknown BadImmediate = Unit {0}

-- these are all the items
pub record IsWhole {A : Type 0} (Spells : List ℕ → A → Type 0) (text : List ℕ) (count : ℕ) (items : List A) : Type 0 where
  pub list : SpellsList Spells text items
  pub counted : count ≡ length items

-- these are the items before the first of an unknown form, which has the error
pub record IsCutAtUnknown {A : Type 0} (Spells : List ℕ → A → Type 0) (Fails : List ℕ → Cause → Type 0) (start : ℕ) (text : List ℕ)
    (count : ℕ) (items : List A) (e : ModuleError) : Type 0 where
  pub cause : Cause
  pub unknown : CauseIsUnknown cause
  pub kind : e.kind ≡ fault_of cause
  pub item : ItemFails Spells Fails start text cause e.offset
  pub counted : count ≡ item.number
  pub before : items ≡ item.items

-- These are the items that are known, and the error is that of the first one behind them, if there is one of an unknown form.
abbrev pub IsKnown : {A : Type 0} → (List ℕ → A → Type 0) → (List ℕ → Cause → Type 0) → ℕ → List ℕ → ℕ → List A → Option ModuleError → Type 0
IsKnown Spells Fails start text count items None = IsWhole Spells text count items
IsKnown Spells Fails start text count items (Some e) = IsCutAtUnknown Spells Fails start text count items e

-- The text, whose first byte has the offset `start`, is a list of which this is known.
abbrev pub SpellsKnown : {A : Type 0} → (List ℕ → A → Type 0) → (List ℕ → Cause → Type 0) → ℕ → List ℕ → Known A → Type 0
SpellsKnown Spells Fails start text k = IsKnown Spells Fails start text k.count k.items k.unknown

-- An error's kind and offset are right: the first fault, where unknown forms are none.
abbrev pub IsKnownFault : {A : Type 0} → (List ℕ → A → Type 0) → (List ℕ → Cause → Type 0) → ℕ → List ℕ → ModuleFault → ℕ → Type 0
IsKnownFault Spells Fails start text faults.UnknownForm offset = ⊥
IsKnownFault Spells Fails start text faults.UnknownOpcode offset = ⊥
IsKnownFault Spells Fails start text fault offset = IsListFault Spells Fails start text fault offset
