-- What an instance of a module is made of, beside its functions (WebAssembly Core Specification 3.0, Execution, Modules, Instantiation; that these
-- contents are all that it reads: this project).
use Rattle.std.specs.Prelude.{◌≡◌, ℕ, ◌+◌, Bool, true, false, List, [], ◌++◌, length, Option, Some, None}
use Rattle.wasm_code.specs.Number.{SpellsUnsigned}
use Rattle.wasm_types.specs.declared.types.PrimitiveTypeInfo.{PrimitiveTypeInfo}
use Rattle.wasm_sections.specs.declared.section.Section.{Section}
use Rattle.wasm_sections.specs.declared.id.SectionId.{SectionId}
use Rattle.wasm_sections.specs.declared.id.SectionId.TheVariants as ids
use Rattle.wasm_module.specs.Module.{Holds}
use Rattle.wasm_module.specs.Rewritten.{globals_code}

-- a section that instantiation reads as it stands; custom sections it doesn't, code is a function's, and globals are listed apart
abbrev pub is_read_whole : SectionId → Bool
is_read_whole ids.Custom = false
is_read_whole ids.Code = false
is_read_whole ids.Global = false
is_read_whole _ = true

-- the first section with the id contains this, or there is none
abbrev pub HasSection : (bytes : List ℕ) → List Section → SectionId → Option (List ℕ) → Type 0
HasSection = Holds None (λ start text contents. contents ≡ Some text)

-- the text is the number of some globals (first), and their codes (second)
pub record CountsGlobals (text : List ℕ) (globals : ℕ × List ℕ) : Type 0 where
  pub size : List ℕ
  pub parts : text ≡ size ++ globals.1
  pub counts : SpellsUnsigned 32 size globals.0

-- the module's own globals are so many (first), and have these codes (second); without a section there are none
abbrev pub HasOwnGlobals : (bytes : List ℕ) → List Section → ℕ × List ℕ → Type 0
HasOwnGlobals bytes sections = Holds (0, []) (λ start. CountsGlobals) bytes sections ids.Global

-- What an instance is made of: what each section that is read whole contains, and of the module's own globals their number and their codes, one after
-- another.
pub record Making : Type 0 where
  pub contents : SectionId → Option (List ℕ)
  pub count : ℕ
  pub globals : List ℕ

-- An instance of the module is made of this.
pub record IsMadeOf (bytes : List ℕ) (sections : List Section) (making : Making) : Type 0 where
  pub contents_are : (id : SectionId) → is_read_whole id ≡ true → HasSection bytes sections id (making.contents id)
  pub globals_are : HasOwnGlobals bytes sections (making.count, making.globals)

-- the same with globals of these types behind, which begin as zeros or nulls
abbrev pub with_more_globals : List PrimitiveTypeInfo → Making → Making
with_more_globals more making =
    record making { count = making.count + length more; globals = making.globals ++ globals_code more }
