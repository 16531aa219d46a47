-- Names of functions: the custom section `name` (WebAssembly Core Specification 3.0, Appendix, Custom Sections, Name Section).
use Rattle.std.specs.Prelude.{◌≡◌, ◌≢◌, ℕ, ◌<◌, List, [], ◌∷◌, ◌++◌, length, codes, slice_range}
use Rattle.std.specs.Str.{IsUtf8}
use Rattle.wasm_code.specs.Grammar.{IsByte, AreBytes, Of, Then}
use Rattle.wasm_code.specs.Number.{SpellsUnsigned}
use Rattle.wasm_sections.specs.declared.id.SectionId.TheVariants as ids
use Rattle.wasm_sections.specs.declared.section.Section.{Section}

-- ---- what is spelled

-- a size, and that many bytes
abbrev pub SpellsSized : List ℕ → List ℕ → Type 0
SpellsSized = Then (SpellsUnsigned 32) AreBytes

-- a name: such bytes, which are UTF-8
pub record SpellsName (text name : List ℕ) : Type 0 where
  pub sized : SpellsSized text name
  pub utf8 : IsUtf8 name

-- a subsection: its id, and its contents
abbrev pub SpellsSubsection : List ℕ → ℕ × List ℕ → Type 0
SpellsSubsection = Then IsByte (λ id. Of (λ contents. (id, contents)) SpellsSized)

-- the index of a function, and its name
abbrev pub SpellsNaming : List ℕ → ℕ × List ℕ → Type 0
SpellsNaming = Then (SpellsUnsigned 32) (λ index. Of (λ name. (index, name)) SpellsName)

-- ---- the first of several

-- the pair is spelled first, and behind it stands what `Rest` asks for
pub record PairIsNext (Spells : List ℕ → ℕ × List ℕ → Type 0) (Rest : List ℕ → Type 0) (text : List ℕ) (pair : ℕ × List ℕ) : Type 0 where
  pub front : List ℕ
  pub back : List ℕ
  pub parts : text ≡ front ++ back
  pub spelled : Spells front pair
  pub rest : Rest back

-- these pairs are spelled first, one after another, none of them with the key, and behind them the key with the value; what
-- follows isn't asked
abbrev pub LeadsTo : (List ℕ → ℕ × List ℕ → Type 0) → ℕ → List (ℕ × List ℕ) → List ℕ → List ℕ → Type 0
LeadsTo Spells key [] text value = PairIsNext Spells (λ back. Unit {0}) text (key, value)
LeadsTo Spells key (pair ∷ before) text value =
    (pair.0 ≢ key) × PairIsNext Spells (λ back. LeadsTo Spells key before back value) text pair

-- the first of these subsections that has the id has these contents
pub record HasSubsection (text : List ℕ) (id : ℕ) (contents : List ℕ) : Type 0 where
  pub before : List (ℕ × List ℕ)
  pub leads : LeadsTo SpellsSubsection id before text contents

-- the first name for the index, among as many as `count`
pub record HasName (index count : ℕ) (text name : List ℕ) : Type 0 where
  pub before : List (ℕ × List ℕ)
  pub fewer : length before < count
  pub leads : LeadsTo SpellsNaming index before text name

-- the first name for the index, in a list
abbrev pub ListsName : ℕ → List ℕ → List ℕ → Type 0
ListsName index = Then (SpellsUnsigned 32) (λ count. HasName index count)

-- ---- the section

-- the contents of a custom section are the name, and these bytes
pub record AreNamed (contents name rest : List ℕ) : Type 0 where
  pub front : List ℕ
  pub parts : contents ≡ front ++ rest
  pub named : SpellsSized front name

-- the section is custom, and its contents are the name `name`, and these bytes
pub record IsNameSection (bytes : List ℕ) (s : Section) (rest : List ℕ) : Type 0 where
  pub custom : s.id ≡ ids.Custom
  pub named : AreNamed (slice_range bytes s.contents s.end) (codes "name") rest

-- none of the sections is such
abbrev pub LackNameSection : List ℕ → List Section → Type 0
LackNameSection bytes [] = Unit {0}
LackNameSection bytes (s ∷ ss) = ((rest : List ℕ) → IsNameSection bytes s rest → ⊥) × LackNameSection bytes ss

-- the first of the sections that is such, and these bytes behind its name
pub record HasNameSection (bytes : List ℕ) (sections : List Section) (rest : List ℕ) : Type 0 where
  pub before : List Section
  pub section : Section
  pub behind : List Section
  pub parts : sections ≡ before ++ section ∷ behind
  pub none : LackNameSection bytes before
  pub is : IsNameSection bytes section rest

-- The function with the index has this name: in the first section with names, there in the first subsection with those of
-- functions, whose id is 1, and there it is the first one for the index.
pub record NamesFunction (bytes : List ℕ) (sections : List Section) (index : ℕ) (name : List ℕ) : Type 0 where
  pub subsections : List ℕ
  pub contents : List ℕ
  pub section : HasNameSection bytes sections subsections
  pub subsection : HasSubsection subsections 1 contents
  pub listed : ListsName index contents name
