-- The bytes of a module have no fault.
use Rattle.std.proofs.Common.{◌≡◌, ℕ, List, [], length, refl, sym, ap, subst, ◌∙◌}
use Rattle.std.specs.Prelude.{slice_range}
use Rattle.wasm_code.specs.Number.{SpellsUnsigned, FailsUnsigned}
use Rattle.wasm_types.specs.Module.{Module}
use Rattle.wasm_sections.specs.declared.section.Section.{Section}
use Rattle.wasm_sections.specs.declared.id.SectionId.{SectionId}
use Rattle.wasm_sections.specs.declared.id.SectionId.TheVariants as ids
use Rattle.wasm_sections.specs.declared.fault.ModuleFault.{ModuleFault}
use Rattle.wasm_sections.specs.declared.fault.ModuleFault.TheVariants as faults
use Rattle.wasm_sections.specs.Section.{SpellsModule}
use Rattle.wasm_sections.specs.Sections.{IsSectionFault}
use Rattle.wasm_sections.specs.Find.{IsFirstWith}
use Rattle.wasm_lists.specs.Known.{nothing_listed, SpellsKnown, IsKnownFault}
use Rattle.wasm_lists.specs.List.{SpellsList, IsListFault}
use Rattle.wasm_lists.specs.Types.{SpellsTypeGroup, FailsTypeGroup}
use Rattle.wasm_lists.specs.Imports.{SpellsImport, FailsImport}
use Rattle.wasm_lists.specs.Tables.{SpellsTable, FailsTable, SpellsMemoryType, FailsMemoryType}
use Rattle.wasm_lists.specs.Globals.{SpellsGlobal, FailsGlobal}
use Rattle.wasm_lists.specs.Entries.{SpellsMeasuredSize, FailsSized, SpellsEntries}
use Rattle.wasm_module.specs.Module.{Layout, Holds, IsModule}
use Rattle.wasm_module.specs.Fault.{IsSectionFaultOf, HasListFault, HasOtherCount, IsModuleFault}
use Rattle.wasm_module.specs.Fault.IsModuleFault.{of_sections, of_a_list, of_the_count, of_memory}
use Rattle.wasm_module.proofs.FindLemmas.{lists_at}
use Rattle.wasm_module.proofs.OneLemmas.{AreOne, one_listing}

-- what spells something has no fault
abbrev HasNone : {X : Type 0} → (ℕ → List ℕ → X → Type 0) → (ℕ → List ℕ → ModuleFault → ℕ → Type 0) → Type 0
HasNone {X} Spells IsFault = (start : ℕ) (text : List ℕ) (x : X) → Spells start text x → (fault : ModuleFault) (offset : ℕ) →
    IsFault start text fault offset → fault ≡ faults.Memory

-- a list of which something is known has no fault
pub record HaveNone : Type 0 where
  pub types : HasNone (SpellsKnown SpellsTypeGroup FailsTypeGroup) (IsKnownFault SpellsTypeGroup FailsTypeGroup)
  pub imports : HasNone (SpellsKnown SpellsImport FailsImport) (IsKnownFault SpellsImport FailsImport)
  pub functions : HasNone (λ _. SpellsList (SpellsUnsigned 32)) (IsListFault (SpellsUnsigned 32) (FailsUnsigned 32))
  pub tables : HasNone (SpellsKnown SpellsTable FailsTable) (IsKnownFault SpellsTable FailsTable)
  pub memories : HasNone (SpellsKnown SpellsMemoryType FailsMemoryType) (IsKnownFault SpellsMemoryType FailsMemoryType)
  pub globals : HasNone (SpellsKnown SpellsGlobal FailsGlobal) (IsKnownFault SpellsGlobal FailsGlobal)
  pub entries : HasNone SpellsEntries (IsListFault SpellsMeasuredSize FailsSized)

held : {X : Type 0} (none : X) (Spells : ℕ → List ℕ → X → Type 0) (IsFault : ℕ → List ℕ → ModuleFault → ℕ → Type 0) → HasNone Spells IsFault →
    (bytes : List ℕ) (ss : List Section) (id : SectionId) (x : X) (s : Section) → Holds none Spells bytes ss id x → IsFirstWith ss id s →
    (fault : ModuleFault) (offset : ℕ) → IsFault s.contents (slice_range bytes s.contents s.end) fault offset → fault ≡ faults.Memory
held none Spells IsFault clean bytes ss id x s h is fault offset f =
    clean s.contents (slice_range bytes s.contents s.end) x (lists_at none Spells bytes ss id x s h is) fault offset f

no_list_fault : (bytes : List ℕ) (info : Module) (layout : Layout) (m : IsModule bytes info layout) (c : HaveNone) (id : SectionId) (s : Section) →
    IsFirstWith layout.sections id s → (fault : ModuleFault) (offset : ℕ)
    → IsSectionFaultOf id s.contents (slice_range bytes s.contents s.end) fault offset → fault ≡ faults.Memory
no_list_fault bytes info layout m c ids.Type s is fault offset f =
    held nothing_listed (SpellsKnown SpellsTypeGroup FailsTypeGroup) (IsKnownFault SpellsTypeGroup FailsTypeGroup) c.types bytes layout.sections
    ids.Type m.types s m.types_are is fault offset f
no_list_fault bytes info layout m c ids.Import s is fault offset f =
    held nothing_listed (SpellsKnown SpellsImport FailsImport) (IsKnownFault SpellsImport FailsImport) c.imports bytes layout.sections ids.Import m.imports s
    m.imports_are is fault offset f
no_list_fault bytes info layout m c ids.Function s is fault offset f =
    held [] (λ _. SpellsList (SpellsUnsigned 32)) (IsListFault (SpellsUnsigned 32) (FailsUnsigned 32)) c.functions bytes layout.sections ids.Function
    m.functions s m.functions_are is fault offset f
no_list_fault bytes info layout m c ids.Table s is fault offset f =
    held nothing_listed (SpellsKnown SpellsTable FailsTable) (IsKnownFault SpellsTable FailsTable) c.tables bytes layout.sections ids.Table
    m.tables s m.tables_are is fault offset f
no_list_fault bytes info layout m c ids.Memory s is fault offset f =
    held nothing_listed (SpellsKnown SpellsMemoryType FailsMemoryType) (IsKnownFault SpellsMemoryType FailsMemoryType) c.memories bytes
    layout.sections ids.Memory
    m.memories s m.memories_are is fault offset f
no_list_fault bytes info layout m c ids.Global s is fault offset f =
    held nothing_listed (SpellsKnown SpellsGlobal FailsGlobal) (IsKnownFault SpellsGlobal FailsGlobal) c.globals bytes layout.sections ids.Global m.globals s
    m.globals_are is fault offset f
no_list_fault bytes info layout m c ids.Code s is fault offset f =
    held [] SpellsEntries (IsListFault SpellsMeasuredSize FailsSized) c.entries bytes layout.sections ids.Code layout.entries s m.entries_are is fault offset f
no_list_fault bytes info layout m c _ s is fault offset f = absurd f

no_other_count : (bytes : List ℕ) (info : Module) (layout : Layout) (m : IsModule bytes info layout) (one : AreOne) (offset : ℕ)
    (h : HasOtherCount bytes offset) → h.sections ≡ layout.sections → ⊥
no_other_count bytes info layout m one offset h same =
    let e = one_listing [] SpellsEntries one.entries bytes h.sections layout.sections ids.Code h.entries layout.entries same h.entries_are m.entries_are in
    let f = one_listing [] (λ _. SpellsList (SpellsUnsigned 32)) (λ _. one.functions) bytes h.sections layout.sections ids.Function h.functions m.functions
    same h.functions_are m.functions_are in
    h.differ (ap length e ∙ m.entry_each ∙ sym (ap length f))

-- bytes have one list of sections, and no fault of sections where they have one
pub record AreSectionsOf (bytes : List ℕ) (sections : List Section) : Type 0 where
  pub only : (others : List Section) → SpellsModule bytes others → others ≡ sections
  pub clean : (fault : ModuleFault) (offset : ℕ) → IsSectionFault bytes fault offset → fault ≡ faults.Memory

list_fault : (bytes : List ℕ) (info : Module) (layout : Layout) (m : IsModule bytes info layout) (c : HaveNone) (fault : ModuleFault) (offset : ℕ)
    (h : HasListFault bytes fault offset) → h.sections ≡ layout.sections → fault ≡ faults.Memory
list_fault bytes info layout m c fault offset h same =
    no_list_fault bytes info layout m c h.id h.fails.section (subst (λ (l : List Section). IsFirstWith l h.id h.fails.section) same h.fails.is) fault offset
    h.fails.fails

pub no_fault : (bytes : List ℕ) (info : Module) (layout : Layout) (m : IsModule bytes info layout) (c : HaveNone) (one : AreOne)
    (s : AreSectionsOf bytes layout.sections) (fault : ModuleFault) (offset : ℕ) → IsModuleFault bytes fault offset → fault ≡ faults.Memory
no_fault bytes info layout m c one s fault offset (of_sections f) = s.clean fault offset f
no_fault bytes info layout m c one s fault offset (of_a_list h) = list_fault bytes info layout m c fault offset h (s.only h.sections h.spells)
no_fault bytes info layout m c one s fault offset (of_the_count h) = absurd (no_other_count bytes info layout m one offset h (s.only h.sections h.spells))
no_fault bytes info layout m c one s fault offset of_memory = refl
