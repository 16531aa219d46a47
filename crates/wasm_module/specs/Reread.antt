-- A module whose code has another entry and that has more globals, read again (this project).
use Rattle.std.specs.Prelude.{◌≡◌, ◌≢◌, ℕ, ◌+◌, ◌<◌, ◌^◌, true, List, ◌++◌, All, length, map, Some, None, slice_get, slice_range}
use Rattle.wasm_types.specs.Module.{Module, merged}
use Rattle.wasm_types.specs.declared.types.PrimitiveTypeInfo.{PrimitiveTypeInfo}
use Rattle.wasm_types.specs.declared.types.PrimitiveTypeInfo.TheVariants as primitives
use Rattle.wasm_sections.specs.declared.section.Section.{Section}
use Rattle.wasm_sections.specs.declared.id.SectionId.TheVariants as ids
use Rattle.wasm_sections.specs.Find.{IsFirstWith}
use Rattle.wasm_lists.specs.declared.entries.Entry.{Entry}
use Rattle.wasm_module.specs.Module.{Layout, IsModule}
use Rattle.wasm_module.specs.Moved.{AreMoved}
use Rattle.wasm_module.specs.Rewritten.{IsRewritten}

-- the k-th entry contains this
pub record HasContents (bytes : List ℕ) (entries : List Entry) (k : ℕ) (text : List ℕ) : Type 0 where
  pub entry : Entry
  pub at : slice_get entries k ≡ Some entry
  pub text_is : text ≡ slice_range bytes entry.contents entry.end

-- The new bytes are a module: its index spaces are the old one's with the globals behind, where a reference is of the one type, its n-th code entry has
-- these contents, and every other one has what it had. Where the entries stand follows from where they stood, and from where the code section stands.
pub record IsReread (bytes : List ℕ) (info : Module) (layout : Layout) (n : ℕ) (contents : List ℕ) (more : List PrimitiveTypeInfo) (new : List ℕ) : Type 0 where
  pub again : Layout
  pub is : IsModule new (record info { input = new; globals = info.globals ++ map (merged true) more }) again
  pub imported : again.imported_functions ≡ layout.imported_functions
  pub own : again.own_globals ≡ layout.own_globals + length more
  pub unknown : again.unknown ≡ layout.unknown
  pub count : length again.entries ≡ length layout.entries
  pub entry : HasContents new again.entries n contents
  pub others : (k : ℕ) (old : Entry) → k ≢ n → slice_get layout.entries k ≡ Some old →
      HasContents new again.entries k (slice_range bytes old.contents old.end)
  pub moves : (code place : Section) → IsFirstWith layout.sections ids.Code code → IsFirstWith again.sections ids.Code place →
      AreMoved layout.entries n contents code place new again.entries

-- The new bytes are a module rewritten so, of which this was read but for its bytes, and whose indices are known: with other contents of its n-th code entry,
-- and maybe with more globals.
pub record WasRewritten (info : Module) (layout : Layout) (n : ℕ) (new : List ℕ) : Type 0 where
  pub bytes : List ℕ
  pub is : IsModule bytes (record info { input = bytes }) layout
  pub contents : List ℕ
  pub more : List PrimitiveTypeInfo
  pub rewritten : IsRewritten bytes layout n contents more new
  pub imports : layout.unknown.imports ≡ None
  pub globals : layout.unknown.globals ≡ None
  pub some : All (λ t. t ≢ primitives.Empty) more

-- for a private function: the new bytes are such a module, and these are their sections
pub record IsMoving (layout : Layout) (sections : List Section) (n : ℕ) (new : List ℕ) : Type 0 where
  pub bytes : List ℕ
  pub info : Module
  pub is : IsModule bytes info layout
  pub inside : n < length layout.entries
  pub contents : List ℕ
  pub more : List PrimitiveTypeInfo
  pub sized : length contents < 2 ^ 32
  pub reread : IsReread bytes info layout n contents more new
  pub sections_are : sections ≡ reread.again.sections
