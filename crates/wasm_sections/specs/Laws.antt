-- Modules by what their sections contain, and where their sections stand (this project).
use Rattle.std.specs.Prelude.{◌≡◌, ℕ, ◌<◌, ◌≤◌, List, [], ◌∷◌, slice_range}
use Rattle.wasm_sections.specs.declared.id.SectionId.{SectionId}
use Rattle.wasm_sections.specs.declared.section.Section.{Section}
use Rattle.wasm_sections.specs.Id.{rank_of}
use Rattle.wasm_sections.specs.Section.{SpellsModule, section_parts_of}
use Rattle.wasm_sections.specs.Find.{IsFirstWith}

-- The bytes spell a module whose sections have these ids and contents.
pub record SpellsParts (bytes : List ℕ) (parts : List (SectionId × List ℕ)) : Type 0 where
  pub sections : List Section
  pub spells : SpellsModule bytes sections
  pub are : section_parts_of bytes sections ≡ parts

-- The sections stand one behind another from `from` to `to`, with nothing between them, and each has its contents at its end.
abbrev pub AreJoined : ℕ → List Section → ℕ → Type 0
AreJoined from [] to = from ≡ to
AreJoined from (s ∷ ss) to = (s.start ≡ from) × (s.start < s.contents) × (s.contents ≤ s.end) × AreJoined s.end ss to

-- The section stands between these offsets, and its contents within it.
pub record IsWithin (from to : ℕ) (s : Section) : Type 0 where
  pub first : from ≤ s.start
  pub contents : s.start < s.contents
  pub order : s.contents ≤ s.end
  pub last : s.end ≤ to

-- The section ends at the place or before it, where it has to precede one of the id, and starts there or behind it, where it has to
-- follow.
pub record IsInOrderAt (place : ℕ) (id : SectionId) (s : Section) : Type 0 where
  pub precedes : 0 < rank_of s.id → rank_of s.id < rank_of id → s.end ≤ place
  pub follows : rank_of id < rank_of s.id → place ≤ s.start

-- The first of the module's sections with the id contains these bytes.
pub record HasFirst (bytes : List ℕ) (sections : List Section) (id : SectionId) (contents : List ℕ) : Type 0 where
  pub s : Section
  pub first : IsFirstWith sections id s
  pub contains : slice_range bytes s.contents s.end ≡ contents
