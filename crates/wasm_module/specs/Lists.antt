-- What the sections of a module list (this project): for proofs.
use Rattle.std.specs.Prelude.{ℕ, List}
use Rattle.wasm_code.specs.Number.{SpellsUnsigned}
use Rattle.wasm_types.specs.declared.types.PrimitiveTypeInfo.{PrimitiveTypeInfo}
use Rattle.wasm_types.specs.declared.types.TypeInfo.{TypeInfo}
use Rattle.wasm_types.specs.declared.types.TableType.{TableType}
use Rattle.wasm_types.specs.declared.types.MemoryType.{MemoryType}
use Rattle.wasm_sections.specs.declared.section.Section.{Section}
use Rattle.wasm_sections.specs.declared.id.SectionId.TheVariants as ids
use Rattle.wasm_lists.specs.declared.import.Import.{Import}
use Rattle.wasm_lists.specs.declared.entries.Entry.{Entry}
use Rattle.wasm_lists.specs.Known.{Known}
use Rattle.wasm_lists.specs.List.{SpellsList}
use Rattle.wasm_lists.specs.Types.{SpellsTypeGroup, FailsTypeGroup}
use Rattle.wasm_lists.specs.Imports.{SpellsImport, FailsImport}
use Rattle.wasm_lists.specs.Tables.{SpellsTable, FailsTable, SpellsMemoryType, FailsMemoryType}
use Rattle.wasm_lists.specs.Globals.{SpellsGlobal, FailsGlobal}
use Rattle.wasm_lists.specs.Entries.{SpellsEntries}
use Rattle.wasm_module.specs.declared.unknown.Unknown.{Unknown}
use Rattle.wasm_module.specs.Module.{Lists, Knows}

-- what is known of the lists of the sections
pub record Listed : Type 0 where
  pub types : Known (List TypeInfo)
  pub imports : Known Import
  pub functions : List ℕ
  pub tables : Known TableType
  pub memories : Known MemoryType
  pub globals : Known PrimitiveTypeInfo
  pub entries : List Entry

-- each section lists these
pub record AreListed (bytes : List ℕ) (sections : List Section) (l : Listed) : Type 0 where
  pub types_are : Knows SpellsTypeGroup FailsTypeGroup bytes sections ids.Type l.types
  pub imports_are : Knows SpellsImport FailsImport bytes sections ids.Import l.imports
  pub functions_are : Lists (λ _. SpellsList (SpellsUnsigned 32)) bytes sections ids.Function l.functions
  pub tables_are : Knows SpellsTable FailsTable bytes sections ids.Table l.tables
  pub memories_are : Knows SpellsMemoryType FailsMemoryType bytes sections ids.Memory l.memories
  pub globals_are : Knows SpellsGlobal FailsGlobal bytes sections ids.Global l.globals
  pub entries_are : Lists SpellsEntries bytes sections ids.Code l.entries

-- what isn't known of them
abbrev pub unknown_in : Listed → Unknown
unknown_in l = record {
  types = l.types.unknown;
  imports = l.imports.unknown;
  tables = l.tables.unknown;
  memories = l.memories.unknown;
  globals = l.globals.unknown;
}
