-- The first fault of bytes that are no module (this project; the rules that they break are those of
-- WebAssembly Core Specification 3.0, Binary Format, Modules, Sections and Modules).
use Rattle.std.specs.Prelude.{◌≡◌, ◌≢◌, ◌⊎◌, ℕ, ◌<◌, ◌≤◌, max, List, [], ◌∷◌, ◌++◌, length}
use Rattle.wasm_code.specs.declared.fault.Cause.{Cause}
use Rattle.wasm_code.specs.declared.fault.Cause.TheVariants as causes
use Rattle.wasm_code.specs.Number.{SpellsUnsigned, FailsUnsigned}
use Rattle.wasm_code.specs.Code.{BeginsWith}
use Rattle.wasm_sections.specs.declared.id.SectionId.{SectionId}
use Rattle.wasm_sections.specs.declared.id.SectionId.TheVariants as ids
use Rattle.wasm_sections.specs.declared.section.Section.{Section}
use Rattle.wasm_sections.specs.declared.fault.ModuleFault.{ModuleFault}
use Rattle.wasm_sections.specs.declared.fault.ModuleFault.TheVariants as faults
use Rattle.wasm_sections.specs.Id.{id_code, rank_of}
use Rattle.wasm_sections.specs.Section.{SpellsModule, IsLinkable, magic, preamble}

-- the largest rank of the sections, behind one of the rank `last`
abbrev pub last_rank : ℕ → List Section → ℕ
last_rank last [] = last
last_rank last (s ∷ ss) = last_rank (max last (rank_of s.id)) ss

-- ---- why bytes begin with no section that may stand there

-- the first byte is no id
pub record LacksId (bytes : List ℕ) : Type 0 where
  pub first : ℕ
  pub back : List ℕ
  pub parts : bytes ≡ first ∷ back
  pub unknown : (id : SectionId) → id_code id ≢ first

-- behind the id no number begins the bytes, for that cause
pub record LacksSize (bytes : List ℕ) (cause : Cause) : Type 0 where
  pub id : SectionId
  pub back : List ℕ
  pub parts : bytes ≡ id_code id ∷ back
  pub fails : FailsUnsigned 32 back cause

-- behind the id and the size stand fewer bytes than the size says
pub record LacksContents (bytes : List ℕ) : Type 0 where
  pub id : SectionId
  pub size : List ℕ
  pub back : List ℕ
  pub count : ℕ
  pub parts : bytes ≡ id_code id ∷ size ++ back
  pub counts : SpellsUnsigned 32 size count
  pub short : length back < count

-- a whole section begins the bytes, and its id and its contents are not allowed there
pub record BeginsWithSection (Is : SectionId → List ℕ → Type 0) (bytes : List ℕ) : Type 0 where
  pub id : SectionId
  pub size : List ℕ
  pub contents : List ℕ
  pub back : List ℕ
  pub parts : bytes ≡ id_code id ∷ size ++ contents ++ back
  pub counts : SpellsUnsigned 32 size (length contents)
  pub is : Is id contents

-- a section that has a rank, which isn't above `last`
abbrev pub IsOutOfOrder : ℕ → SectionId → List ℕ → Type 0
IsOutOfOrder last id contents = (0 < rank_of id) × (rank_of id ≤ last)

-- a custom section that makes the module a linkable object
abbrev pub IsLinkableSection : SectionId → List ℕ → Type 0
IsLinkableSection id contents = (id ≡ ids.Custom) × IsLinkable contents

-- No section that may stand behind one of the rank `last` begins the bytes, of which there is one at least.
abbrev pub FailsSection : ModuleFault → ℕ → List ℕ → Type 0
FailsSection faults.UnknownSection last bytes = LacksId bytes
FailsSection faults.Truncated last bytes = LacksSize bytes causes.Truncated ⊎ LacksContents bytes
FailsSection faults.BadInteger last bytes = LacksSize bytes causes.BadInteger
FailsSection faults.OutOfOrder last bytes = BeginsWithSection (IsOutOfOrder last) bytes
FailsSection faults.Linkable last bytes = BeginsWithSection IsLinkableSection bytes
FailsSection _ last bytes = ⊥

-- ---- the first fault

-- behind a whole module stand bytes that begin with no further section, for that cause
pub record SectionsStopAt (bytes : List ℕ) (fault : ModuleFault) (offset : ℕ) : Type 0 where
  pub front : List ℕ
  pub back : List ℕ
  pub sections : List Section
  pub parts : bytes ≡ front ++ back
  pub before : SpellsModule front sections
  pub at : offset ≡ length front
  pub fails : FailsSection fault (last_rank 0 sections) back

-- An error's kind and offset are right.
abbrev pub IsSectionFault : List ℕ → ModuleFault → ℕ → Type 0
IsSectionFault bytes faults.BadMagic offset = (BeginsWith bytes magic → ⊥) × (offset ≡ 0)
IsSectionFault bytes faults.BadVersion offset = BeginsWith bytes magic × (BeginsWith bytes preamble → ⊥) × (offset ≡ 4)
IsSectionFault bytes faults.UnknownSection offset = SectionsStopAt bytes faults.UnknownSection offset
IsSectionFault bytes faults.Truncated offset = SectionsStopAt bytes faults.Truncated offset
IsSectionFault bytes faults.BadInteger offset = SectionsStopAt bytes faults.BadInteger offset
IsSectionFault bytes faults.OutOfOrder offset = SectionsStopAt bytes faults.OutOfOrder offset
IsSectionFault bytes faults.Linkable offset = SectionsStopAt bytes faults.Linkable offset
IsSectionFault bytes faults.Memory offset = offset ≡ 0
IsSectionFault bytes _ offset = ⊥
