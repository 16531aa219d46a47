-- Modules as sections: the preamble, and sections one after another, in order
-- (WebAssembly Core Specification 3.0, Binary Format, Modules, Sections and Modules; WebAssembly tool conventions, Linking).
use Rattle.std.specs.Prelude.{◌≡◌, ◌⊎◌, ℕ, ◌+◌, ◌<◌, max, List, [], ◌∷◌, ◌++◌, length, map, codes, slice_range}
use Rattle.wasm_code.specs.Number.{SpellsUnsigned}
use Rattle.wasm_code.specs.Code.{BeginsWith}
use Rattle.wasm_sections.specs.declared.id.SectionId.{SectionId}
use Rattle.wasm_sections.specs.declared.id.SectionId.TheVariants as ids
use Rattle.wasm_sections.specs.declared.section.Section.{Section}
use Rattle.wasm_sections.specs.Id.{id_code, rank_of}

-- ---- sections one after another

-- the id, the number of the bytes of the contents, and the contents of the section come first, and the rest behind them;
-- the first byte of the text has the offset `start`
pub record IsNextSection (Rest : ℕ → List ℕ → Type 0) (start : ℕ) (text : List ℕ) (s : Section) : Type 0 where
  pub size : List ℕ
  pub contents : List ℕ
  pub back : List ℕ
  pub parts : text ≡ id_code s.id ∷ size ++ contents ++ back
  pub counts : SpellsUnsigned 32 size (length contents)
  pub starts : s.start ≡ start
  pub contents_at : s.contents ≡ start + 1 + length size
  pub ends : s.end ≡ s.contents + length contents
  pub rest : Rest s.end back

-- the text is these sections, one after another
abbrev pub SpellsSections : List Section → ℕ → List ℕ → Type 0
SpellsSections [] start text = text ≡ []
SpellsSections (s ∷ ss) start text = IsNextSection (SpellsSections ss) start text s

-- ---- their order

-- those that have a rank, which are all but the custom ones, stand in the order of their ranks, each at most once, behind one
-- of the rank `last`
abbrev pub AreInOrder : ℕ → List Section → Type 0
AreInOrder last [] = Unit {0}
AreInOrder last (s ∷ ss) = (0 < rank_of s.id → last < rank_of s.id) × AreInOrder (max last (rank_of s.id)) ss

-- ---- what they contain

-- the ids and the contents of the sections
abbrev pub section_parts_of : List ℕ → List Section → List (SectionId × List ℕ)
section_parts_of bytes sections = map (λ s. (s.id, slice_range bytes s.contents s.end)) sections

-- ---- linkable objects

-- the bytes begin with the name: the number of its bytes, and these
pub record BeginsWithName (bytes name : List ℕ) : Type 0 where
  pub size : List ℕ
  pub back : List ℕ
  pub parts : bytes ≡ size ++ name ++ back
  pub counts : SpellsUnsigned 32 size (length name)

-- `linking`, or `reloc.` and more
abbrev pub IsLinkingName : List ℕ → Type 0
IsLinkingName name = (name ≡ codes "linking") ⊎ BeginsWith name (codes "reloc.")

-- these contents of a custom section say how to link the module or to move its code; contents that begin with no whole name
-- don't
pub record IsLinkable (contents : List ℕ) : Type 0 where
  pub name : List ℕ
  pub named : BeginsWithName contents name
  pub linking : IsLinkingName name

-- no custom section is of that kind
abbrev pub AreFinal : List (SectionId × List ℕ) → Type 0
AreFinal [] = Unit {0}
AreFinal (p ∷ parts) = (p.0 ≡ ids.Custom → IsLinkable p.1 → ⊥) × AreFinal parts

-- ---- modules

-- the magic number `\0asm`, without which bytes are no module at all
abbrev pub magic : List ℕ
magic = 0x00 ∷ 0x61 ∷ 0x73 ∷ 0x6d ∷ []

-- `\0asm`, and the version 1 in four bytes, the lowest first: what stands before the first section
abbrev pub preamble : List ℕ
preamble = 0x00 ∷ 0x61 ∷ 0x73 ∷ 0x6d ∷ 0x01 ∷ 0x00 ∷ 0x00 ∷ 0x00 ∷ []

-- The bytes are the preamble and these sections, one after another, in order, none of which makes the module a linkable object.
pub record SpellsModule (bytes : List ℕ) (sections : List Section) : Type 0 where
  pub text : List ℕ
  pub parts : bytes ≡ preamble ++ text
  pub spelled : SpellsSections sections 8 text
  pub ordered : AreInOrder 0 sections
  pub final : AreFinal (section_parts_of bytes sections)
