-- Where globals may be appended before an offset of a module, and where an entry of its code stands (this project): for proofs.
use Rattle.std.specs.Prelude.{◌≡◌, ℕ, ◌≤◌, ◌+◌, ◌-◌, List, ◌++◌, length, Some, slice_get, slice_range}
use Rattle.wasm_types.specs.declared.types.PrimitiveTypeInfo.{PrimitiveTypeInfo}
use Rattle.wasm_lists.specs.declared.entries.Entry.{Entry}
use Rattle.wasm_module.specs.Rewritten.{globals_code}
use Rattle.wasm_code.specs.Code.{shortest}
use Rattle.wasm_code.specs.Number.{SpellsUnsigned}
use Rattle.wasm_sections.specs.declared.section.Section.{Section}
use Rattle.wasm_sections.specs.declared.id.SectionId.TheVariants as ids
use Rattle.wasm_sections.specs.Find.{IsFirstWith, IsPlaceOf}
use Rattle.wasm_sections.specs.Section.{SpellsModule}
use Rattle.wasm_module.specs.Module.{Layout}

-- that number begins the text
pub record CountBeginsText (text : List ℕ) (n : ℕ) : Type 0 where
  pub count : List ℕ
  pub items : List ℕ
  pub parts : text ≡ count ++ items
  pub counts : SpellsUnsigned 32 count n

-- the section ends before the offset, and begins with that number
pub record HasGlobals (bytes : List ℕ) (own to : ℕ) (section : Section) : Type 0 where
  pub start : section.start ≤ section.contents
  pub order : section.contents ≤ section.end
  pub before : section.end ≤ to
  pub counted : CountBeginsText (slice_range bytes section.contents section.end) own

-- the global section, or the place of one, is before the offset
pub record HasRoom (bytes : List ℕ) (layout : Layout) (to : ℕ) : Type 0 where
  pub spells : SpellsModule bytes layout.sections
  pub inside : to ≤ length bytes
  pub globals : (s : Section) → IsFirstWith layout.sections ids.Global s → HasGlobals bytes layout.own_globals to s
  pub place : (place : ℕ) → IsPlaceOf layout.sections ids.Global place → place ≤ to

-- the entry lies in the code section
pub record IsEntryOf (bytes : List ℕ) (code_contents start end code_end : ℕ) : Type 0 where
  pub first : code_contents ≤ start
  pub order : start ≤ end
  pub last : end ≤ code_end
  pub inside : code_end ≤ length bytes

-- where the n-th entry of the code stands, and that globals may be appended before the code
pub record IsCodePlace (bytes : List ℕ) (layout : Layout) (n : ℕ) (code : Section) (entry : Entry) : Type 0 where
  pub code_is : IsFirstWith layout.sections ids.Code code
  pub entry_is : slice_get layout.entries n ≡ Some entry
  pub room : HasRoom bytes layout code.start
  pub placed : IsEntryOf bytes code.contents entry.start entry.end code.end

-- what a global section contains that has so many globals: their number, the bytes of those that were there, and more behind them
abbrev pub globals_with : (count : ℕ) → (items : List ℕ) → (more : List PrimitiveTypeInfo) → List ℕ
globals_with count items more = shortest count ++ items ++ globals_code more

-- how many bytes the code section contains where the entry's contents have so many
abbrev pub size_with : Section → Entry → (size : ℕ) → ℕ
size_with code entry size = (entry.start - code.contents) + length (shortest size) + size + (code.end - entry.end)
