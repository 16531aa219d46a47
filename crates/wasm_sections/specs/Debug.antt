-- Custom sections that say where things stand in the code, which no longer holds once a module is rewritten, and modules without these
-- (WebAssembly tool conventions, Debugging and Code Metadata; ECMA-426, Source map format; this project).
use Rattle.std.specs.Prelude.{◌≡◌, ◌⊎◌, ℕ, List, [], ◌∷◌, ◌++◌, codes, slice_range, flat_map}
use Rattle.wasm_code.specs.Code.{BeginsWith}
use Rattle.wasm_sections.specs.declared.id.SectionId.TheVariants as ids
use Rattle.wasm_sections.specs.declared.section.Section.{Section}
use Rattle.wasm_sections.specs.Section.{section_parts_of, BeginsWithName, preamble}
use Rattle.wasm_sections.specs.Laws.{SpellsParts}

-- `sourceMappingURL`, `external_debug_info`, or `.debug_` or `metadata.code.` and more
abbrev pub IsDebugName : List ℕ → Type 0
IsDebugName name = ((name ≡ codes "sourceMappingURL") ⊎ (name ≡ codes "external_debug_info"))
    ⊎ (BeginsWith name (codes ".debug_") ⊎ BeginsWith name (codes "metadata.code."))

-- these contents of a custom section name places in the code, or say where such names are; contents that begin with no whole name
-- don't
pub record NamesPlaces (contents : List ℕ) : Type 0 where
  pub name : List ℕ
  pub named : BeginsWithName contents name
  pub debug : IsDebugName name

-- the section of the module is a custom one of that kind
abbrev pub IsDebug : (bytes : List ℕ) → Section → Type 0
IsDebug bytes s = (s.id ≡ ids.Custom) × NamesPlaces (slice_range bytes s.contents s.end)

-- those of the sections that aren't of that kind, in their order
abbrev pub AreKept : (bytes : List ℕ) → (sections kept : List Section) → Type 0
AreKept bytes [] kept = kept ≡ []
AreKept bytes (s ∷ ss) kept = (IsDebug bytes s × AreKept bytes ss kept)
    ⊎ ((IsDebug bytes s → ⊥) × (rest : List Section) × (kept ≡ s ∷ rest) × AreKept bytes ss rest)

-- the bytes of the sections, from the id of each to its end, one after another
abbrev pub bytes_of_sections : (bytes : List ℕ) → List Section → List ℕ
bytes_of_sections bytes sections = flat_map (λ s. slice_range bytes s.start s.end) sections

-- The new bytes are the module without its sections of that kind: the preamble, and the bytes of the others as they stood, in their
-- order. They are a module again, whose sections have the ids and the contents of the others.
pub record IsWithoutDebug (bytes : List ℕ) (sections : List Section) (new : List ℕ) : Type 0 where
  pub kept : List Section
  pub are : AreKept bytes sections kept
  pub written : new ≡ preamble ++ bytes_of_sections bytes kept
  pub spells : SpellsParts new (section_parts_of bytes kept)
