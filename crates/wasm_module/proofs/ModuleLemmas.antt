-- A module from what its sections list.
use Rattle.std.proofs.Common.{◌≡◌, ℕ, Bool, false, List, length, Option, refl, sym, ap, subst, ◌∙◌, true}
use Rattle.wasm_types.specs.Module.{Module}
use Rattle.wasm_types.specs.declared.types.PrimitiveTypeInfo.{PrimitiveTypeInfo}
use Rattle.wasm_types.specs.declared.types.TypeInfo.{TypeInfo}
use Rattle.wasm_types.specs.declared.types.TableType.{TableType}
use Rattle.wasm_types.specs.declared.types.MemoryType.{MemoryType}
use Rattle.wasm_sections.specs.declared.section.Section.{Section}
use Rattle.wasm_sections.specs.declared.fault.ModuleError.{ModuleError}
use Rattle.wasm_sections.specs.declared.id.SectionId.TheVariants as ids
use Rattle.wasm_sections.specs.Section.{SpellsModule}
use Rattle.wasm_lists.specs.Entries.{SpellsEntries}
use Rattle.wasm_lists.specs.Types.{types_in}
use Rattle.wasm_lists.specs.declared.entries.Entry.{Entry}
use Rattle.wasm_module.specs.declared.unknown.Unknown.{Unknown}
use Rattle.wasm_module.specs.Module.{Layout, Lists, space, functions_of, tables_of, memories_of, globals_of, IsModule}
use Rattle.wasm_module.specs.Lists.{Listed, AreListed, unknown_in}

abbrev pub info_of : (bytes : List ℕ) → List TypeInfo → List ℕ → List TableType → List MemoryType → List PrimitiveTypeInfo → Module
info_of bytes types functions tables memories globals =
    record { input = bytes; globals = globals; types = types; functions = functions; tables = tables; memories = memories; exact = false; one_reference = true }

abbrev pub unknown_of : Option ModuleError → Option ModuleError → Option ModuleError → Option ModuleError → Option ModuleError → Unknown
unknown_of types imports tables memories globals =
    record { types = types; imports = imports; tables = tables; memories = memories; globals = globals }

abbrev pub layout_of : List Section → ℕ → ℕ → List Entry → Unknown → Layout
layout_of sections imported own entries unknown =
    record { sections = sections; imported_functions = imported; own_globals = own; entries = entries; unknown = unknown }

pub module_is : (exact : Bool) (bytes : List ℕ) (sections : List Section) (l : Listed) (types : List TypeInfo) (functions : List ℕ) (tables : List TableType)
    (memories : List MemoryType) (globals : List PrimitiveTypeInfo) (imported own : ℕ) (entries : List Entry) (unknown : Unknown)
    → SpellsModule bytes sections → AreListed bytes sections l → length l.entries ≡ length l.functions → types ≡ types_in l.types.items
    → functions ≡ space (functions_of l.imports.items) l.imports.unknown l.functions
    → tables ≡ space (tables_of l.imports.items) l.imports.unknown l.tables.items
    → memories ≡ space (memories_of l.imports.items) l.imports.unknown l.memories.items
    → globals ≡ space (globals_of l.imports.items) l.imports.unknown l.globals.items → imported ≡ length (functions_of l.imports.items)
    → own ≡ l.globals.count → entries ≡ l.entries → unknown ≡ unknown_in l
    → IsModule bytes (record (info_of bytes types functions tables memories globals) { exact = exact }) (layout_of sections imported own entries unknown)
module_is exact bytes sections l types functions tables memories globals imported own entries unknown spells listed count y f t m g i o e u = record {
  spells = spells;
  input = refl;
  types = l.types;
  imports = l.imports;
  functions = l.functions;
  tables = l.tables;
  memories = l.memories;
  globals = l.globals;
  types_are = listed.types_are;
  imports_are = listed.imports_are;
  functions_are = listed.functions_are;
  tables_are = listed.tables_are;
  memories_are = listed.memories_are;
  globals_are = listed.globals_are;
  entries_are = subst (Lists SpellsEntries bytes sections ids.Code) (sym e) listed.entries_are;
  all_types = y;
  all_functions = f;
  all_tables = t;
  all_memories = m;
  all_globals = g;
  one_reference = refl;
  imported = i;
  own = o;
  entry_each = ap length e ∙ count;
  unknown_types = ap (λ (v : Unknown). v.types) u;
  unknown_imports = ap (λ (v : Unknown). v.imports) u;
  unknown_tables = ap (λ (v : Unknown). v.tables) u;
  unknown_memories = ap (λ (v : Unknown). v.memories) u;
  unknown_globals = ap (λ (v : Unknown). v.globals) u;
}
