-- What a module says of itself, as far as its functions' bodies need it
-- (WebAssembly Core Specification 3.0, Binary Format, Modules; Structure, Modules, Indices).
use Rattle.std.specs.Prelude.{◌≡◌, ◌⊎◌, ℕ, List, [], ◌∷◌, ◌++◌, length, Option, Some, None, slice_range, true}
use Rattle.wasm_code.specs.declared.fault.Cause.{Cause}
use Rattle.wasm_code.specs.Number.{SpellsUnsigned}
use Rattle.wasm_types.specs.Module.{Module}
use Rattle.wasm_types.specs.declared.types.PrimitiveTypeInfo.{PrimitiveTypeInfo}
use Rattle.wasm_types.specs.declared.types.TypeInfo.{TypeInfo}
use Rattle.wasm_types.specs.declared.types.TableType.{TableType}
use Rattle.wasm_types.specs.declared.types.MemoryType.{MemoryType}
use Rattle.wasm_sections.specs.declared.section.Section.{Section}
use Rattle.wasm_sections.specs.declared.fault.ModuleError.{ModuleError}
use Rattle.wasm_sections.specs.declared.id.SectionId.{SectionId}
use Rattle.wasm_sections.specs.declared.id.SectionId.TheVariants as ids
use Rattle.wasm_sections.specs.Section.{SpellsModule}
use Rattle.wasm_sections.specs.Find.{IsFirstWith, LackId}
use Rattle.wasm_lists.specs.declared.import.Import.{Import}
use Rattle.wasm_lists.specs.declared.import.Import.TheVariants as imports
use Rattle.wasm_lists.specs.declared.entries.Entry.{Entry}
use Rattle.wasm_module.specs.declared.unknown.Unknown.{Unknown}
use Rattle.wasm_lists.specs.Known.{Known, nothing_listed, SpellsKnown}
use Rattle.wasm_lists.specs.List.{SpellsList}
use Rattle.wasm_lists.specs.Types.{SpellsTypeGroup, FailsTypeGroup, types_in}
use Rattle.wasm_lists.specs.Imports.{SpellsImport, FailsImport}
use Rattle.wasm_lists.specs.Tables.{SpellsTable, FailsTable, SpellsMemoryType, FailsMemoryType}
use Rattle.wasm_lists.specs.Globals.{SpellsGlobal, FailsGlobal}
use Rattle.wasm_lists.specs.Entries.{SpellsEntries}

-- Where things stand in a module: its sections, how many functions are imported, how many globals are its own, the entries of its code, and what of it
-- isn't known.
pub record Layout : Type 0 where
  pub sections : List Section
  pub imported_functions : ℕ
  pub own_globals : ℕ
  pub entries : List Entry
  pub unknown : Unknown

-- The section with the id spells this value, or it isn't there and the value is `none`. A spelling may go by the offset of its first byte.
abbrev pub Holds : {X : Type 0} → (none : X) → (ℕ → List ℕ → X → Type 0) → (bytes : List ℕ) → List Section → SectionId → X → Type 0
Holds none Spells bytes sections id x =
    ((s : Section) × IsFirstWith sections id s × Spells s.contents (slice_range bytes s.contents s.end) x)
    ⊎ (LackId sections id × (x ≡ none))

-- The section with the id lists these items, or it isn't there and there are none.
abbrev pub Lists : {A : Type 0} → (ℕ → List ℕ → List A → Type 0) → (bytes : List ℕ) → List Section → SectionId → List A → Type 0
Lists Spells = Holds [] Spells

-- Of what the section with the id lists this is known; nothing is listed where it isn't there.
abbrev pub Knows : {A : Type 0} → (List ℕ → A → Type 0) → (List ℕ → Cause → Type 0) → (bytes : List ℕ) → List Section → SectionId → Known A → Type 0
Knows Spells Fails = Holds nothing_listed (SpellsKnown Spells Fails)

-- ---- what is imported, by its kind

-- the indices of the types of the functions
abbrev pub functions_of : List Import → List ℕ
functions_of [] = []
functions_of (imports.Function n ∷ is) = n ∷ functions_of is
functions_of (imports.Table t ∷ is) = functions_of is
functions_of (imports.Memory t ∷ is) = functions_of is
functions_of (imports.Global t ∷ is) = functions_of is
functions_of (imports.Tag n ∷ is) = functions_of is

-- the tables
abbrev pub tables_of : List Import → List TableType
tables_of [] = []
tables_of (imports.Function n ∷ is) = tables_of is
tables_of (imports.Table t ∷ is) = t ∷ tables_of is
tables_of (imports.Memory t ∷ is) = tables_of is
tables_of (imports.Global t ∷ is) = tables_of is
tables_of (imports.Tag n ∷ is) = tables_of is

-- the memories
abbrev pub memories_of : List Import → List MemoryType
memories_of [] = []
memories_of (imports.Function n ∷ is) = memories_of is
memories_of (imports.Table t ∷ is) = memories_of is
memories_of (imports.Memory t ∷ is) = t ∷ memories_of is
memories_of (imports.Global t ∷ is) = memories_of is
memories_of (imports.Tag n ∷ is) = memories_of is

-- the types of the globals
abbrev pub globals_of : List Import → List PrimitiveTypeInfo
globals_of [] = []
globals_of (imports.Function n ∷ is) = globals_of is
globals_of (imports.Table t ∷ is) = globals_of is
globals_of (imports.Memory t ∷ is) = globals_of is
globals_of (imports.Global t ∷ is) = t ∷ globals_of is
globals_of (imports.Tag n ∷ is) = globals_of is

-- ---- modules

-- an index space: what is imported, and behind it the module's own where every import is of a known form, since no index is known otherwise
abbrev pub space : {A : Type 0} → (imported : List A) → (unknown : Option ModuleError) → (own : List A) → List A
space imported None own = imported ++ own
space imported (Some e) own = imported

-- The bytes are a module of which this is known: in each index space what is imported comes first, and then what the module's own sections list, as far as
-- the forms of these items are known; there are as many code entries as functions of its own. Whether what runs it is exact no bytes tell: that may be either.
pub record IsModule (bytes : List ℕ) (info : Module) (layout : Layout) : Type 0 where
  pub spells : SpellsModule bytes layout.sections
  pub input : info.input ≡ bytes
  pub types : Known (List TypeInfo)
  pub imports : Known Import
  pub functions : List ℕ
  pub tables : Known TableType
  pub memories : Known MemoryType
  pub globals : Known PrimitiveTypeInfo
  pub types_are : Knows SpellsTypeGroup FailsTypeGroup bytes layout.sections ids.Type types
  pub imports_are : Knows SpellsImport FailsImport bytes layout.sections ids.Import imports
  pub functions_are : Lists (λ _. SpellsList (SpellsUnsigned 32)) bytes layout.sections ids.Function functions
  pub tables_are : Knows SpellsTable FailsTable bytes layout.sections ids.Table tables
  pub memories_are : Knows SpellsMemoryType FailsMemoryType bytes layout.sections ids.Memory memories
  pub globals_are : Knows SpellsGlobal FailsGlobal bytes layout.sections ids.Global globals
  pub entries_are : Lists SpellsEntries bytes layout.sections ids.Code layout.entries
  pub all_types : info.types ≡ types_in types.items
  pub all_functions : info.functions ≡ space (functions_of imports.items) imports.unknown functions
  pub all_tables : info.tables ≡ space (tables_of imports.items) imports.unknown tables.items
  pub all_memories : info.memories ≡ space (memories_of imports.items) imports.unknown memories.items
  pub all_globals : info.globals ≡ space (globals_of imports.items) imports.unknown globals.items
  pub one_reference : info.one_reference ≡ true
  pub imported : layout.imported_functions ≡ length (functions_of imports.items)
  pub own : layout.own_globals ≡ globals.count
  pub entry_each : length layout.entries ≡ length functions
  pub unknown_types : layout.unknown.types ≡ types.unknown
  pub unknown_imports : layout.unknown.imports ≡ imports.unknown
  pub unknown_tables : layout.unknown.tables ≡ tables.unknown
  pub unknown_memories : layout.unknown.memories ≡ memories.unknown
  pub unknown_globals : layout.unknown.globals ≡ globals.unknown
