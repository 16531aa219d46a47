-- What the parts of a reader answer (this project): for proofs.
use Rattle.std.specs.Prelude.{◌≡◌, ◌⊎◌, ℕ, ◌<◌, nat_lt, Bool, ◌&&◌, if◌then◌else◌, List, [], ◌∷◌, ◌++◌, length, slice_range}
use Rattle.wasm_code.specs.declared.fault.Cause.{Cause}
use Rattle.wasm_code.specs.declared.fault.Cause.TheVariants as causes
use Rattle.wasm_code.specs.Number.{SpellsUnsigned, FailsUnsigned}
use Rattle.wasm_sections.specs.declared.id.SectionId.{SectionId}
use Rattle.wasm_sections.specs.declared.id.SectionId.TheVariants as ids
use Rattle.wasm_sections.specs.declared.section.Section.{Section}
use Rattle.wasm_sections.specs.declared.fault.ModuleFault.{ModuleFault}
use Rattle.wasm_sections.specs.declared.fault.ModuleFault.TheVariants as faults
use Rattle.wasm_sections.specs.Id.{rank_of}
use Rattle.wasm_sections.specs.Section.{IsNextSection, IsLinkable}
use Rattle.wasm_sections.specs.Sections.{IsOutOfOrder, IsLinkableSection}
use Rattle.wasm_sections.specs.Debug.{IsDebug, AreKept, bytes_of_sections}

-- the fault of a section whose size is no number for that cause; the last two causes no number has
abbrev pub size_fault_of : Cause → ModuleFault
size_fault_of causes.Truncated = faults.Truncated
size_fault_of causes.BadInteger = faults.BadInteger
size_fault_of causes.UnknownOpcode = faults.Truncated
size_fault_of causes.BadImmediate = faults.Truncated

-- bytes and the number of them begin the text, and the rest stands behind
pub record IsCounted (bytes back text : List ℕ) : Type 0 where
  pub size : List ℕ
  pub parts : text ≡ size ++ bytes ++ back
  pub counts : SpellsUnsigned 32 size (length bytes)

-- a number begins the text, and fewer bytes stand behind it
pub record IsShort (text : List ℕ) : Type 0 where
  pub size : List ℕ
  pub back : List ℕ
  pub count : ℕ
  pub parts : text ≡ size ++ back
  pub counts : SpellsUnsigned 32 size count
  pub short : length back < count

-- no counted bytes begin the text: no number does, or fewer bytes follow it
abbrev pub FailsCounted : ModuleFault → List ℕ → Type 0
FailsCounted faults.Truncated text = FailsUnsigned 32 text causes.Truncated ⊎ IsShort text
FailsCounted faults.BadInteger text = FailsUnsigned 32 text causes.BadInteger
FailsCounted _ text = ⊥

-- such a section may stand behind one of the rank `last`
pub record IsAllowed (last : ℕ) (id : SectionId) (contents : List ℕ) : Type 0 where
  pub ordered : 0 < rank_of id → last < rank_of id
  pub final : id ≡ ids.Custom → IsLinkable contents → ⊥

-- such a section may not stand there, for that cause
abbrev pub IsForbidden : ModuleFault → ℕ → SectionId → List ℕ → Type 0
IsForbidden faults.OutOfOrder last id contents = IsOutOfOrder last id contents
IsForbidden faults.Linkable last id contents = IsLinkableSection id contents
IsForbidden _ last id contents = ⊥

-- the section begins the text, may stand there, and `after` stands behind it
pub record IsAccepted (last start : ℕ) (text : List ℕ) (s : Section) (after : List ℕ) : Type 0 where
  pub next : IsNextSection (λ end back. back ≡ after) start text s
  pub allowed : IsAllowed last s.id next.contents

-- whether a section of the first id has to stand before one of the second
abbrev pub comes_before_lem : SectionId → SectionId → Bool
comes_before_lem first second = nat_lt 0 (rank_of first) && nat_lt (rank_of first) (rank_of second)

-- the end of the last of the sections that has to stand before one of the id, or else `place`
abbrev pub place_from : ℕ → SectionId → List Section → ℕ
place_from place id [] = place
place_from place id (s ∷ ss) = place_from (if comes_before_lem s.id id then s.end else place) id ss

-- the bytes of the section stand behind the old ones, unless it names places in the code
abbrev pub IsPut : (bytes : List ℕ) → Section → (old new : List ℕ) → Type 0
IsPut bytes s old new = (IsDebug bytes s × (new ≡ old)) ⊎ ((IsDebug bytes s → ⊥) × (new ≡ old ++ slice_range bytes s.start s.end))

-- the bytes of those of the sections that name none stand behind the old ones
pub record ArePut (bytes : List ℕ) (sections : List Section) (old new : List ℕ) : Type 0 where
  pub kept : List Section
  pub are : AreKept bytes sections kept
  pub written : new ≡ old ++ bytes_of_sections bytes kept
