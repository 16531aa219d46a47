-- A module with another code entry, and with more globals: every other byte stands as it stood (this project;
-- WebAssembly Core Specification 3.0, Binary Format, Modules, Code Section and Global Section).
use Rattle.std.specs.Prelude.{◌≡◌, ◌⊎◌, ℕ, ◌+◌, ◌<◌, ◌^◌, List, [], ◌∷◌, ◌++◌, length, replicate, take, drop, Some, slice_get, slice_range}
use Rattle.wasm_code.specs.Number.{SpellsUnsigned}
use Rattle.wasm_code.specs.Code.{shortest}
use Rattle.wasm_types.specs.declared.types.PrimitiveTypeInfo.{PrimitiveTypeInfo}
use Rattle.wasm_types.specs.declared.types.PrimitiveTypeInfo.TheVariants as primitives
use Rattle.wasm_sections.specs.declared.section.Section.{Section}
use Rattle.wasm_sections.specs.declared.id.SectionId.TheVariants as ids
use Rattle.wasm_sections.specs.Find.{IsFirstWith, IsPlaceOf, LackId}
use Rattle.wasm_sections.specs.Writing.{section_code}
use Rattle.wasm_lists.specs.declared.entries.Entry.{Entry}
use Rattle.wasm_module.specs.Module.{Layout}

-- ---- globals that are appended

-- so many zeros
abbrev pub zeros : ℕ → List ℕ
zeros n = replicate n 0

-- a global that may be written: the byte of its type, and the instruction that it starts by
abbrev pub global_of : (type : ℕ) → (start : List ℕ) → List ℕ
global_of type start = type ∷ 0x01 ∷ start ++ 0x0b ∷ []

-- the global of a type starts as zero, or null; no global has the type `Empty`
abbrev pub global_code : PrimitiveTypeInfo → List ℕ
global_code primitives.I32 = global_of 0x7f (0x41 ∷ 0x00 ∷ [])
global_code primitives.I64 = global_of 0x7e (0x42 ∷ 0x00 ∷ [])
global_code primitives.F32 = global_of 0x7d (0x43 ∷ zeros 4)
global_code primitives.F64 = global_of 0x7c (0x44 ∷ zeros 8)
global_code primitives.V128 = global_of 0x7b (0xfd ∷ 0x0c ∷ zeros 16)
global_code primitives.FuncRef = global_of 0x70 (0xd0 ∷ 0x70 ∷ [])
global_code primitives.ExternRef = global_of 0x6f (0xd0 ∷ 0x6f ∷ [])
global_code primitives.Empty = []

-- globals of these types, one after another
abbrev pub globals_code : List PrimitiveTypeInfo → List ℕ
globals_code [] = []
globals_code (t ∷ ts) = global_code t ++ globals_code ts

-- what a global section of these globals contains
abbrev pub new_globals : List PrimitiveTypeInfo → List ℕ
new_globals ts = shortest (length ts) ++ globals_code ts

-- what the global section contains with more globals: the number of all of them, the items as they stood, and the new ones behind them
pub record GrowsContents (own : ℕ) (old : List ℕ) (more : List PrimitiveTypeInfo) (new : List ℕ) : Type 0 where
  pub count : List ℕ
  pub items : List ℕ
  pub parts : old ≡ count ++ items
  pub counts : SpellsUnsigned 32 count own
  pub new_is : new ≡ shortest (own + length more) ++ items ++ globals_code more

-- the global section is there, and contains more globals
pub record GrowsGlobals (bytes : List ℕ) (layout : Layout) (more : List PrimitiveTypeInfo) (to : ℕ) (front : List ℕ) : Type 0 where
  pub section : Section
  pub is : IsFirstWith layout.sections ids.Global section
  pub contents : List ℕ
  pub grown : GrowsContents layout.own_globals (slice_range bytes section.contents section.end) more contents
  pub few : layout.own_globals + length more < 2 ^ 32
  pub sized : length contents < 2 ^ 32
  pub front_is : front ≡ take section.start bytes ++ section_code ids.Global contents ++ slice_range bytes section.end to

-- there is no global section: one of the new globals stands where it may
pub record AddsGlobals (bytes : List ℕ) (layout : Layout) (more : List PrimitiveTypeInfo) (to : ℕ) (front : List ℕ) : Type 0 where
  pub none : LackId layout.sections ids.Global
  pub place : ℕ
  pub is : IsPlaceOf layout.sections ids.Global place
  pub few : length more < 2 ^ 32
  pub sized : length (new_globals more) < 2 ^ 32
  pub front_is : front ≡ take place bytes ++ section_code ids.Global (new_globals more) ++ slice_range bytes place to

-- the bytes before the offset, with more globals; where there are no more, as they stood
abbrev pub IsFront : (bytes : List ℕ) → Layout → (more : List PrimitiveTypeInfo) → (to : ℕ) → (front : List ℕ) → Type 0
IsFront bytes layout [] to front = front ≡ take to bytes
IsFront bytes layout (t ∷ ts) to front = GrowsGlobals bytes layout (t ∷ ts) to front ⊎ AddsGlobals bytes layout (t ∷ ts) to front

-- ---- a code entry that is replaced

-- what the code section contains, with other contents of the entry
abbrev pub code_section_with : (bytes : List ℕ) → Section → Entry → (contents : List ℕ) → List ℕ
code_section_with bytes code entry contents =
    slice_range bytes code.contents entry.start ++ shortest (length contents) ++ contents ++ slice_range bytes entry.end code.end

-- The new bytes are the module's with other contents of the n-th code entry, and with more globals: the sizes of the two sections and of the entry, and the
-- number of the globals, are written anew, each below 2 ^ 32, and every other byte stands as it stood.
pub record IsRewritten (bytes : List ℕ) (layout : Layout) (n : ℕ) (contents : List ℕ) (more : List PrimitiveTypeInfo) (new : List ℕ) : Type 0 where
  pub code : Section
  pub code_is : IsFirstWith layout.sections ids.Code code
  pub entry : Entry
  pub entry_is : slice_get layout.entries n ≡ Some entry
  pub entry_sized : length contents < 2 ^ 32
  pub code_sized : length (code_section_with bytes code entry contents) < 2 ^ 32
  pub front : List ℕ
  pub front_is : IsFront bytes layout more code.start front
  pub new_is : new ≡ front ++ section_code ids.Code (code_section_with bytes code entry contents) ++ drop code.end bytes
