-- Modules that can't be written, since 32 bits don't hold a size or a number (this project).
use Rattle.std.specs.Prelude.{◌≡◌, ℕ, ◌+◌, ◌<◌, ◌≤◌, ◌^◌, List, length, Some, slice_get, slice_range}
use Rattle.wasm_types.specs.declared.types.PrimitiveTypeInfo.{PrimitiveTypeInfo}
use Rattle.wasm_sections.specs.declared.section.Section.{Section}
use Rattle.wasm_sections.specs.declared.id.SectionId.TheVariants as ids
use Rattle.wasm_sections.specs.Find.{IsFirstWith, LackId}
use Rattle.wasm_lists.specs.declared.entries.Entry.{Entry}
use Rattle.wasm_module.specs.Module.{Layout}
use Rattle.wasm_module.specs.Rewritten.{new_globals, GrowsContents, code_section_with}

-- what the code section contains has 2 ^ 32 bytes or more with these contents of the n-th entry
pub record HasLargeCode (bytes : List ℕ) (layout : Layout) (n : ℕ) (contents : List ℕ) : Type 0 where
  pub code : Section
  pub code_is : IsFirstWith layout.sections ids.Code code
  pub entry : Entry
  pub entry_is : slice_get layout.entries n ≡ Some entry
  pub large : 2 ^ 32 ≤ length (code_section_with bytes code entry contents)

-- what the global section contains has 2 ^ 32 bytes or more with these globals
pub record GrowsTooLarge (bytes : List ℕ) (layout : Layout) (more : List PrimitiveTypeInfo) : Type 0 where
  pub section : Section
  pub is : IsFirstWith layout.sections ids.Global section
  pub contents : List ℕ
  pub grown : GrowsContents layout.own_globals (slice_range bytes section.contents section.end) more contents
  pub large : 2 ^ 32 ≤ length contents

-- the same where there is no global section
pub record StartsTooLarge (layout : Layout) (more : List PrimitiveTypeInfo) : Type 0 where
  pub none : LackId layout.sections ids.Global
  pub large : 2 ^ 32 ≤ length (new_globals more)

-- More globals don't fit: there are 2 ^ 32 or more of them, or their section has as many bytes.
pub data HasTooManyGlobals (bytes : List ℕ) (layout : Layout) (more : List PrimitiveTypeInfo) : Type 0 where
  by_number : 2 ^ 32 ≤ layout.own_globals + length more → HasTooManyGlobals bytes layout more
  by_growth : GrowsTooLarge bytes layout more → HasTooManyGlobals bytes layout more
  from_nothing : StartsTooLarge layout more → HasTooManyGlobals bytes layout more

-- The module with those contents of its n-th code entry and with more globals, if there are any, can't be written.
pub data IsTooLarge (bytes : List ℕ) (layout : Layout) (n : ℕ) (contents : List ℕ) (more : List PrimitiveTypeInfo) : Type 0 where
  by_entry : 2 ^ 32 ≤ length contents → IsTooLarge bytes layout n contents more
  by_code : HasLargeCode bytes layout n contents → IsTooLarge bytes layout n contents more
  by_globals : 0 < length more → HasTooManyGlobals bytes layout more → IsTooLarge bytes layout n contents more
