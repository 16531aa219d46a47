-- Lists: the number of the items, and the items, one after another (WebAssembly Core Specification 3.0, Binary Format,
-- Conventions, Lists); and the first fault of bytes that are none (the order of the faults is this project's own).
use Rattle.std.specs.Prelude.{◌≡◌, ◌⊎◌, ℕ, zero, suc, ◌+◌, ◌<◌, List, [], ◌∷◌, ◌++◌, length}
use Rattle.wasm_code.specs.declared.fault.Cause.{Cause}
use Rattle.wasm_code.specs.declared.fault.Cause.TheVariants.{Truncated, UnknownOpcode, BadInteger, BadImmediate}
use Rattle.wasm_code.specs.Grammar.{NoBytes, Of, Then, FailsThen, FailsTimes}
use Rattle.wasm_code.specs.Number.{SpellsUnsigned, FailsUnsigned}
use Rattle.wasm_sections.specs.declared.fault.ModuleFault.{ModuleFault}
use Rattle.wasm_sections.specs.declared.fault.ModuleFault.TheVariants as faults

-- so many spellings one after another, whose values are kept
abbrev pub Each : {A : Type 0} → ℕ → (List ℕ → A → Type 0) → List ℕ → List A → Type 0
Each zero Spells = NoBytes []
Each (suc n) Spells = Then Spells (λ x. Of (λ xs. x ∷ xs) (Each n Spells))

-- The text is the number of the items, and the items, one after another.
abbrev pub SpellsList : {A : Type 0} → (List ℕ → A → Type 0) → List ℕ → List A → Type 0
SpellsList Spells = Then (SpellsUnsigned 32) (λ n. Each n Spells)

-- No list begins the bytes: its count fails, or one of the items.
abbrev pub FailsList : {A : Type 0} → (List ℕ → A → Type 0) → (List ℕ → Cause → Type 0) → List ℕ → Cause → Type 0
FailsList Spells Fails = FailsThen (FailsUnsigned 32) (SpellsUnsigned 32) (λ n. FailsTimes n Fails Spells)

-- ---- the first fault of a section's contents, whose first byte has the offset `start`

-- the count fails
pub record CountFails (start : ℕ) (text : List ℕ) (cause : Cause) (offset : ℕ) : Type 0 where
  pub fails : FailsUnsigned 32 text cause
  pub at : offset ≡ start

-- behind fewer whole items than the count says stand bytes that begin with none
pub record ItemFails {A : Type 0} (Spells : List ℕ → A → Type 0) (Fails : List ℕ → Cause → Type 0) (start : ℕ)
    (text : List ℕ) (cause : Cause) (offset : ℕ) : Type 0 where
  pub number : ℕ
  pub count : List ℕ
  pub before : ℕ
  pub items : List A
  pub front : List ℕ
  pub back : List ℕ
  pub parts : text ≡ count ++ (front ++ back)
  pub counts : SpellsUnsigned 32 count number
  pub fewer : before < number
  pub spelled : Each before Spells front items
  pub at : offset ≡ start + length count + length front
  pub fails : Fails back cause

-- The count fails, or the first item that fails starts at the offset.
abbrev pub ListStopsAt : {A : Type 0} → (List ℕ → A → Type 0) → (List ℕ → Cause → Type 0) → ℕ → List ℕ → Cause → ℕ → Type 0
ListStopsAt Spells Fails start text cause offset = CountFails start text cause offset ⊎ ItemFails Spells Fails start text cause offset

-- bytes stand behind the list
pub record HasMore {A : Type 0} (Spells : List ℕ → A → Type 0) (start : ℕ) (text : List ℕ) (offset : ℕ) : Type 0 where
  pub items : List A
  pub front : List ℕ
  pub first : ℕ
  pub back : List ℕ
  pub parts : text ≡ front ++ first ∷ back
  pub list : SpellsList Spells front items
  pub at : offset ≡ start + length front

-- An error's kind and offset are right.
abbrev pub IsListFault : {A : Type 0} → (List ℕ → A → Type 0) → (List ℕ → Cause → Type 0) → ℕ → List ℕ → ModuleFault → ℕ → Type 0
IsListFault Spells Fails start text faults.Truncated offset = ListStopsAt Spells Fails start text Truncated offset
IsListFault Spells Fails start text faults.BadInteger offset = ListStopsAt Spells Fails start text BadInteger offset
IsListFault Spells Fails start text faults.UnknownForm offset = ListStopsAt Spells Fails start text BadImmediate offset
IsListFault Spells Fails start text faults.UnknownOpcode offset = ListStopsAt Spells Fails start text UnknownOpcode offset
IsListFault Spells Fails start text faults.TrailingBytes offset = HasMore Spells start text offset
IsListFault Spells Fails start text faults.Memory offset = offset ≡ start
IsListFault Spells Fails start text _ offset = ⊥

-- the fault that a cause is
abbrev pub fault_of : Cause → ModuleFault
fault_of Truncated = faults.Truncated
fault_of UnknownOpcode = faults.UnknownOpcode
fault_of BadInteger = faults.BadInteger
fault_of BadImmediate = faults.UnknownForm
