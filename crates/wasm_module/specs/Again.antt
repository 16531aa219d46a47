-- What the sections of a module contain, with another code entry and with more globals (this project).
use Rattle.std.specs.Prelude.{◌≡◌, ◌⊎◌, ℕ, List, [], ◌∷◌, ◌++◌, Some, slice_get, slice_range}
use Rattle.wasm_types.specs.declared.types.PrimitiveTypeInfo.{PrimitiveTypeInfo}
use Rattle.wasm_sections.specs.declared.section.Section.{Section}
use Rattle.wasm_sections.specs.declared.id.SectionId.{SectionId}
use Rattle.wasm_sections.specs.declared.id.SectionId.TheVariants as ids
use Rattle.wasm_sections.specs.Section.{section_parts_of}
use Rattle.wasm_sections.specs.Laws.{SpellsParts}
use Rattle.wasm_lists.specs.declared.entries.Entry.{Entry}
use Rattle.wasm_module.specs.Module.{Layout}
use Rattle.wasm_module.specs.Rewritten.{new_globals, GrowsContents, code_section_with}

-- the sections have those ids and contents, but that the global section contains more globals
pub record GrowsPart (bytes : List ℕ) (own : ℕ) (more : List PrimitiveTypeInfo) (sections : List Section) (parts : List (SectionId × List ℕ)) : Type 0 where
  pub before : List Section
  pub section : Section
  pub behind : List Section
  pub sections_are : sections ≡ before ++ section ∷ behind
  pub is : section.id ≡ ids.Global
  pub contents : List ℕ
  pub grown : GrowsContents own (slice_range bytes section.contents section.end) more contents
  pub parts_are : parts ≡ section_parts_of bytes before ++ (ids.Global, contents) ∷ section_parts_of bytes behind

-- the same, but that a global section stands between them
pub record AddsPart (bytes : List ℕ) (more : List PrimitiveTypeInfo) (sections : List Section) (parts : List (SectionId × List ℕ)) : Type 0 where
  pub before : List Section
  pub behind : List Section
  pub sections_are : sections ≡ before ++ behind
  pub parts_are : parts ≡ section_parts_of bytes before ++ (ids.Global, new_globals more) ∷ section_parts_of bytes behind

-- what sections contain with more globals
abbrev pub ArePartsWith : (bytes : List ℕ) → Layout → (more : List PrimitiveTypeInfo) → List Section → List (SectionId × List ℕ) → Type 0
ArePartsWith bytes layout [] sections parts = parts ≡ section_parts_of bytes sections
ArePartsWith bytes layout (t ∷ ts) sections parts =
    GrowsPart bytes layout.own_globals (t ∷ ts) sections parts ⊎ AddsPart bytes (t ∷ ts) sections parts

-- The new bytes spell sections that have the ids of the module's, in their order, and contain what those contained; but the code section contains other
-- contents of its n-th entry, and a global section before it more globals.
pub record AreSectionsAgain (bytes : List ℕ) (layout : Layout) (n : ℕ) (contents : List ℕ) (more : List PrimitiveTypeInfo) (new : List ℕ) : Type 0 where
  pub before : List Section
  pub code : Section
  pub behind : List Section
  pub sections_are : layout.sections ≡ before ++ code ∷ behind
  pub is : code.id ≡ ids.Code
  pub entry : Entry
  pub entry_is : slice_get layout.entries n ≡ Some entry
  pub front : List (SectionId × List ℕ)
  pub front_is : ArePartsWith bytes layout more before front
  pub spells : SpellsParts new (front ++ (ids.Code, code_section_with bytes code entry contents) ∷ section_parts_of bytes behind)
