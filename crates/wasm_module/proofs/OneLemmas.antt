-- Bytes are one module at most.
use Rattle.std.proofs.Common.{◌≡◌, inl, inr, ℕ, Bool, false, List, [], length, Option, sym, ap, subst, ◌∙◌, true}
use Rattle.wasm_code.specs.Number.{SpellsUnsigned}
use Rattle.wasm_types.specs.Module.{Module}
use Rattle.wasm_types.specs.declared.types.PrimitiveTypeInfo.{PrimitiveTypeInfo}
use Rattle.wasm_types.specs.declared.types.TypeInfo.{TypeInfo}
use Rattle.wasm_types.specs.declared.types.TableType.{TableType}
use Rattle.wasm_types.specs.declared.types.MemoryType.{MemoryType}
use Rattle.wasm_sections.specs.declared.section.Section.{Section}
use Rattle.wasm_sections.specs.declared.fault.ModuleError.{ModuleError}
use Rattle.wasm_sections.specs.declared.id.SectionId.{SectionId}
use Rattle.wasm_sections.specs.declared.id.SectionId.TheVariants as ids
use Rattle.wasm_lists.specs.declared.import.Import.{Import}
use Rattle.wasm_lists.specs.declared.entries.Entry.{Entry}
use Rattle.wasm_lists.specs.Known.{Known, nothing_listed, SpellsKnown}
use Rattle.wasm_lists.specs.List.{SpellsList}
use Rattle.wasm_lists.specs.Types.{SpellsTypeGroup, FailsTypeGroup, types_in}
use Rattle.wasm_lists.specs.Imports.{SpellsImport, FailsImport}
use Rattle.wasm_lists.specs.Tables.{SpellsTable, FailsTable, SpellsMemoryType, FailsMemoryType}
use Rattle.wasm_lists.specs.Globals.{SpellsGlobal, FailsGlobal}
use Rattle.wasm_lists.specs.Entries.{SpellsEntries}
use Rattle.wasm_module.specs.declared.unknown.Unknown.{Unknown}
use Rattle.wasm_module.specs.Module.{Layout, Holds, space, functions_of, tables_of, memories_of, globals_of, IsModule}
use Rattle.wasm_module.proofs.FindLemmas.{lists_at, lists_nothing}
use Rattle.wasm_module.proofs.ModuleLemmas.{info_of, layout_of, unknown_of}

abbrev pub IsOne : {X : Type 0} → (List ℕ → X → Type 0) → Type 0
IsOne {X} Spells = (text : List ℕ) (x y : X) → Spells text x → Spells text y → x ≡ y

-- of a text one list of each kind is known
pub record AreOne : Type 0 where
  pub types : (start : ℕ) → IsOne (SpellsKnown SpellsTypeGroup FailsTypeGroup start)
  pub imports : (start : ℕ) → IsOne (SpellsKnown SpellsImport FailsImport start)
  pub functions : IsOne (SpellsList (SpellsUnsigned 32))
  pub tables : (start : ℕ) → IsOne (SpellsKnown SpellsTable FailsTable start)
  pub memories : (start : ℕ) → IsOne (SpellsKnown SpellsMemoryType FailsMemoryType start)
  pub globals : (start : ℕ) → IsOne (SpellsKnown SpellsGlobal FailsGlobal start)
  pub entries : (start : ℕ) → IsOne (SpellsEntries start)

pub one_listing : {X : Type 0} (none : X) (Spells : ℕ → List ℕ → X → Type 0) → ((start : ℕ) → IsOne (Spells start)) → (bytes : List ℕ) (ss zs : List Section)
    (id : SectionId) (x y : X) → ss ≡ zs → Holds none Spells bytes ss id x → Holds none Spells bytes zs id y → x ≡ y
one_listing none Spells one bytes ss zs id x y e p q =
    let same : Holds none Spells bytes ss id y = subst (λ (l : List Section). Holds none Spells bytes l id y) (sym e) q in
    elim p [
      | inl a ↦ one a.0.contents _ x y a.2 (lists_at none Spells bytes ss id y a.0 same a.1)
      | inr a ↦ a.1 ∙ sym (lists_nothing none Spells bytes ss id y same a.0)
    ]

one_unmarked : (i j : Module) → i.input ≡ j.input → i.globals ≡ j.globals → i.types ≡ j.types → i.functions ≡ j.functions → i.tables ≡ j.tables →
    i.memories ≡ j.memories → i.one_reference ≡ true → j.one_reference ≡ true → record i { exact = false } ≡ record j { exact = false }
one_unmarked i j a b c d e f p q =
    ap (λ (y : Bool). record i { exact = false; one_reference = y }) p
    ∙ ap (λ (x : List ℕ). info_of x i.types i.functions i.tables i.memories i.globals) a
    ∙ ap (λ (x : List PrimitiveTypeInfo). info_of j.input i.types i.functions i.tables i.memories x) b
    ∙ ap (λ (x : List TypeInfo). info_of j.input x i.functions i.tables i.memories j.globals) c
    ∙ ap (λ (x : List ℕ). info_of j.input j.types x i.tables i.memories j.globals) d
    ∙ ap (λ (x : List TableType). info_of j.input j.types j.functions x i.memories j.globals) e
    ∙ ap (λ (x : List MemoryType). info_of j.input j.types j.functions j.tables x j.globals) f
    ∙ ap (λ (y : Bool). record j { exact = false; one_reference = y }) (sym q)

one_info : (i j : Module) → record i { exact = false } ≡ record j { exact = false } → i.exact ≡ j.exact → i ≡ j
one_info i j e mark = ap (λ (m : Module). record m { exact = i.exact }) e ∙ ap (λ (x : Bool). record j { exact = x }) mark

one_unknown : (u v : Unknown) → u.types ≡ v.types → u.imports ≡ v.imports → u.tables ≡ v.tables → u.memories ≡ v.memories → u.globals ≡ v.globals →
    u ≡ v
one_unknown u v a b c d e =
    ap (λ (x : Option ModuleError). unknown_of x u.imports u.tables u.memories u.globals) a
    ∙ ap (λ (x : Option ModuleError). unknown_of v.types x u.tables u.memories u.globals) b
    ∙ ap (λ (x : Option ModuleError). unknown_of v.types v.imports x u.memories u.globals) c
    ∙ ap (λ (x : Option ModuleError). unknown_of v.types v.imports v.tables x u.globals) d
    ∙ ap (λ (x : Option ModuleError). unknown_of v.types v.imports v.tables v.memories x) e

one_layout : (k l : Layout) → k.sections ≡ l.sections → k.imported_functions ≡ l.imported_functions → k.own_globals ≡ l.own_globals →
    k.entries ≡ l.entries → k.unknown ≡ l.unknown → k ≡ l
one_layout k l a b c d e =
    ap (λ (x : List Section). layout_of x k.imported_functions k.own_globals k.entries k.unknown) a
    ∙ ap (λ (x : ℕ). layout_of l.sections x k.own_globals k.entries k.unknown) b
    ∙ ap (λ (x : ℕ). layout_of l.sections l.imported_functions x k.entries k.unknown) c
    ∙ ap (λ (x : List Entry). layout_of l.sections l.imported_functions l.own_globals x k.unknown) d
    ∙ ap (λ (x : Unknown). layout_of l.sections l.imported_functions l.own_globals l.entries x) e

joined : {A : Type 0} (f : List Import → List A) (is js : Known Import) (xs ys all other : List A) → all ≡ space (f is.items) is.unknown xs →
    other ≡ space (f js.items) js.unknown ys → is ≡ js → xs ≡ ys → all ≡ other
joined {A} f is js xs ys all other p q e d =
    p ∙ ap (λ (k : Known Import). space (f k.items) k.unknown xs) e ∙ ap (λ (l : List A). space (f js.items) js.unknown l) d ∙ sym q

-- what isn't known of one list
without : {A : Type 0} (k j : Known A) (o p : Option ModuleError) → o ≡ k.unknown → p ≡ j.unknown → k ≡ j → o ≡ p
without {A} k j o p e f same = e ∙ ap (λ (x : Known A). x.unknown) same ∙ sym f

items_of : {A : Type 0} (k j : Known A) → k ≡ j → k.items ≡ j.items
items_of {A} k j same = ap (λ (x : Known A). x.items) same

pub one_module : (bytes : List ℕ) (i j : Module) (k l : Layout) → AreOne → k.sections ≡ l.sections → IsModule bytes i k → IsModule bytes j l →
    i.exact ≡ j.exact → (i ≡ j) × (k ≡ l)
one_module bytes i j k l one same m n mark =
    let types = one_listing nothing_listed (SpellsKnown SpellsTypeGroup FailsTypeGroup) one.types bytes k.sections l.sections
    ids.Type m.types n.types same m.types_are n.types_are in
    let imports = one_listing nothing_listed (SpellsKnown SpellsImport FailsImport) one.imports bytes k.sections l.sections
    ids.Import m.imports n.imports same m.imports_are n.imports_are in
    let functions = one_listing [] (λ _. SpellsList (SpellsUnsigned 32)) (λ _. one.functions) bytes k.sections l.sections
    ids.Function m.functions n.functions same m.functions_are n.functions_are in
    let tables = one_listing nothing_listed (SpellsKnown SpellsTable FailsTable) one.tables bytes k.sections l.sections
    ids.Table m.tables n.tables same m.tables_are n.tables_are in
    let memories = one_listing nothing_listed (SpellsKnown SpellsMemoryType FailsMemoryType) one.memories bytes k.sections l.sections
    ids.Memory m.memories n.memories same m.memories_are n.memories_are in
    let globals = one_listing nothing_listed (SpellsKnown SpellsGlobal FailsGlobal) one.globals bytes k.sections l.sections
    ids.Global m.globals n.globals same m.globals_are n.globals_are in
    let entries = one_listing [] SpellsEntries one.entries bytes k.sections l.sections
    ids.Code k.entries l.entries same m.entries_are n.entries_are in (
      one_info i j (one_unmarked i j (m.input ∙ sym n.input)
          (joined globals_of m.imports n.imports m.globals.items n.globals.items i.globals j.globals m.all_globals n.all_globals imports
          (items_of m.globals n.globals globals))
          (m.all_types ∙ ap types_in (items_of m.types n.types types) ∙ sym n.all_types)
          (joined functions_of m.imports n.imports m.functions n.functions i.functions j.functions m.all_functions n.all_functions imports functions)
          (joined tables_of m.imports n.imports m.tables.items n.tables.items i.tables j.tables m.all_tables n.all_tables imports
          (items_of m.tables n.tables tables))
          (joined memories_of m.imports n.imports m.memories.items n.memories.items i.memories j.memories m.all_memories n.all_memories imports
          (items_of m.memories n.memories memories))
          m.one_reference n.one_reference) mark,
      one_layout k l same (m.imported ∙ ap (λ (x : Known Import). length (functions_of x.items)) imports ∙ sym n.imported)
          (m.own ∙ ap (λ (x : Known PrimitiveTypeInfo). x.count) globals ∙ sym n.own) entries
          (one_unknown k.unknown l.unknown (without m.types n.types k.unknown.types l.unknown.types m.unknown_types n.unknown_types types)
          (without m.imports n.imports k.unknown.imports l.unknown.imports m.unknown_imports n.unknown_imports imports)
          (without m.tables n.tables k.unknown.tables l.unknown.tables m.unknown_tables n.unknown_tables tables)
          (without m.memories n.memories k.unknown.memories l.unknown.memories m.unknown_memories n.unknown_memories memories)
          (without m.globals n.globals k.unknown.globals l.unknown.globals m.unknown_globals n.unknown_globals globals)),
    )
