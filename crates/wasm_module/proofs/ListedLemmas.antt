-- What a section lists is read, unless memory runs out.
use Rattle.std.proofs.Common.{◌≡◌, ℕ, List, [], length, Result, Ok, Err, sym, ap, subst, ◌∙◌}
use Rattle.std.specs.Prelude.{IfErr, MatchResult}
use Rattle.wasm_sections.specs.declared.section.Section.{Section}
use Rattle.wasm_sections.specs.declared.id.SectionId.{SectionId}
use Rattle.wasm_sections.specs.declared.fault.ModuleError.{ModuleError}
use Rattle.wasm_sections.specs.declared.fault.ModuleFault.TheVariants.{Memory}
use Rattle.wasm_code.specs.Number.{SpellsUnsigned}
use Rattle.wasm_types.specs.Module.{Module}
use Rattle.wasm_sections.specs.declared.id.SectionId.TheVariants as ids
use Rattle.wasm_lists.specs.List.{SpellsList}
use Rattle.wasm_lists.specs.Entries.{SpellsEntries}
use Rattle.wasm_module.specs.Module.{Layout, Holds, IsModule}
use Rattle.wasm_module.specs.Lists.{Listed, AreListed}
use Rattle.wasm_module.proofs.OneLemmas.{AreOne, one_listing}
use Rattle.wasm_module.specs.Contents.{AreContents}
use Rattle.wasm_module.proofs.FindLemmas.{lists_at}

pub err_of : {V : Type 0} (P : V → Type 0) (r : Result V ModuleError) → MatchResult r P (λ e. e.kind ≡ Memory) → IfErr r (λ e. e.kind ≡ Memory)
err_of P (Ok v) p = tt
err_of P (Err e) p = p

pub only_memory : {V X : Type 0} (none : X) (Spells : ℕ → List ℕ → X → Type 0) (value : V → X) (bytes : List ℕ) (ss : List Section) (id : SectionId)
    (start : ℕ) (text : List ℕ) (x : X) (r : Result V ModuleError) → AreContents bytes ss id start text → Holds none Spells bytes ss id x
    → ((y : X) → Spells start text y → MatchResult r (λ v. value v ≡ y) (λ e. e.kind ≡ Memory)) → IfErr r (λ e. e.kind ≡ Memory)
only_memory none Spells value bytes ss id start text x r a l f =
    let s = lists_at none Spells bytes ss id x a.section l a.is in
    let here = subst (λ (t : List ℕ). Spells a.section.contents t x) (sym a.text_is) s in
    err_of (λ v. value v ≡ x) r (f x (subst (λ (k : ℕ). Spells k text x) (sym a.starts) here))

-- ---- what a module lists

abbrev pub listing : (bytes : List ℕ) (info : Module) (layout : Layout) → IsModule bytes info layout → Listed
listing bytes info layout m = record {
  types = m.types;
  imports = m.imports;
  functions = m.functions;
  tables = m.tables;
  memories = m.memories;
  globals = m.globals;
  entries = layout.entries;
}

pub listed : (bytes : List ℕ) (ss : List Section) (info : Module) (layout : Layout) (m : IsModule bytes info layout) → layout.sections ≡ ss →
    AreListed bytes ss (listing bytes info layout m)
listed bytes ss info layout m same =
    subst (λ (l : List Section). AreListed bytes l (listing bytes info layout m)) same (record {
      types_are = m.types_are;
      imports_are = m.imports_are;
      functions_are = m.functions_are;
      tables_are = m.tables_are;
      memories_are = m.memories_are;
      globals_are = m.globals_are;
      entries_are = m.entries_are;
    })

-- there are as many entries as functions
pub one_count : (bytes : List ℕ) (ss : List Section) (l : Listed) (info : Module) (layout : Layout) → AreOne → IsModule bytes info layout →
    layout.sections ≡ ss → AreListed bytes ss l → length l.entries ≡ length l.functions
one_count bytes ss l info layout one m same a =
    let e = one_listing [] SpellsEntries one.entries bytes ss layout.sections ids.Code l.entries layout.entries (sym same) a.entries_are m.entries_are in
    let f = one_listing [] (λ _. SpellsList (SpellsUnsigned 32)) (λ _. one.functions) bytes ss layout.sections ids.Function l.functions m.functions (sym same)
    a.functions_are m.functions_are in
    ap length e ∙ m.entry_each ∙ sym (ap length f)
