-- A module without its custom sections that name places in the code is the same module.
use Rattle.std.proofs.Common.{◌≡◌, inl, inr, ℕ, ◌+◌, ◌-◌, ◌≤◌, List, [], ◌++◌, length, take, drop, Option, Some, None, refl, sym, ap, subst, ◌∙◌, arith}
use Rattle.std.specs.Prelude.{◌↔◌, slice_get, slice_range}
use Rattle.std.proofs.lemmas.List.{take-append-drop, length-take-le}
use Rattle.wasm_code.specs.declared.fault.Cause.{Cause}
use Rattle.wasm_code.specs.Number.{SpellsUnsigned}
use Rattle.wasm_types.specs.Module.{Module}
use Rattle.wasm_sections.specs.declared.id.SectionId.{SectionId}
use Rattle.wasm_sections.specs.declared.id.SectionId.TheVariants as ids
use Rattle.wasm_sections.specs.declared.section.Section.{Section}
use Rattle.wasm_sections.specs.declared.fault.ModuleError.{ModuleError}
use Rattle.wasm_sections.specs.Section.{SpellsModule}
use Rattle.wasm_sections.specs.Find.{IsFirstWith}
use Rattle.wasm_sections.specs.Laws.{IsWithin}
use Rattle.wasm_sections.specs.Debug.{IsWithoutDebug}
use Rattle.wasm_lists.specs.declared.entries.Entry.{Entry}
use Rattle.wasm_lists.specs.Known.{Known, IsKnown}
use Rattle.wasm_lists.specs.List.{SpellsList}
use Rattle.wasm_lists.specs.Types.{SpellsTypeGroup, FailsTypeGroup}
use Rattle.wasm_lists.specs.Imports.{SpellsImport, FailsImport}
use Rattle.wasm_lists.specs.Tables.{SpellsTable, FailsTable, SpellsMemoryType, FailsMemoryType}
use Rattle.wasm_lists.specs.Globals.{SpellsGlobal, FailsGlobal}
use Rattle.wasm_lists.specs.Entries.{SpellsEntries}
use Rattle.wasm_module.specs.Module.{Layout, Lists, Knows, space, functions_of, tables_of, memories_of, globals_of, IsModule}
use Rattle.wasm_module.specs.Reread.{HasContents}
use Rattle.wasm_module.specs.SameModule.{IsSameModule}
use Rattle.wasm_module.proofs.RewrittenBody.{entries_moved}
use Rattle.wasm_module.proofs.InsideLemmas.{no_entry}
use Rattle.wasm_module.proofs.StaysLemmas.{Stay, held_still}

-- ---- lists of which not all is known

-- both are errors, or none is
abbrev AreAlike : Option ModuleError → Option ModuleError → Type 0
AreAlike None None = Unit {0}
AreAlike None (Some e) = ⊥
AreAlike (Some d) None = ⊥
AreAlike (Some d) (Some e) = Unit {0}

alike_itself : (o : Option ModuleError) → AreAlike o o
alike_itself None = tt
alike_itself (Some e) = tt

-- nothing is unknown in the one where nothing is in the other
none_alike : (o p k : Option ModuleError) → o ≡ k → AreAlike p k → o ≡ None ↔ p ≡ None
none_alike o p k is alike = (λ e. forth p k alike (sym is ∙ e), λ e. is ∙ back p k alike e)
  where
    forth : (p k : Option ModuleError) → AreAlike p k → k ≡ None → p ≡ None
    forth None k a e = refl
    forth (Some d) None a e = absurd a
    forth (Some d) (Some f) a e = absurd cc

    back : (p k : Option ModuleError) → AreAlike p k → p ≡ None → k ≡ None
    back p None a e = refl
    back None (Some f) a e = absurd a
    back (Some d) (Some f) a e = absurd cc

space_alike : {A : Type 0} (all imported own : List A) (o p : Option ModuleError) → AreAlike p o → all ≡ space imported o own → all ≡ space imported p own
space_alike all imported own None None a e = e
space_alike all imported own None (Some d) a e = absurd a
space_alike all imported own (Some d) None a e = absurd a
space_alike all imported own (Some d) (Some f) a e = e

-- the same is known of the text where its first byte has that offset, but that an error has another
record IsKnownAt {A : Type 0} (Spells : List ℕ → A → Type 0) (Fails : List ℕ → Cause → Type 0) (start : ℕ) (text : List ℕ) (n : ℕ) (xs : List A)
    (o : Option ModuleError) : Type 0 where
  pub error : Option ModuleError
  pub is : IsKnown Spells Fails start text n xs error
  pub alike : AreAlike error o

known_at : {A : Type 0} (Spells : List ℕ → A → Type 0) (Fails : List ℕ → Cause → Type 0) (start to : ℕ) (text : List ℕ) (n : ℕ) (xs : List A)
    (o : Option ModuleError) → IsKnown Spells Fails start text n xs o → IsKnownAt Spells Fails to text n xs o
known_at Spells Fails start to text n xs None k = record { error = None; is = k; alike = tt }
known_at Spells Fails start to text n xs (Some e) k =
    let i = k.item in
    record {
      error = Some (record { kind = e.kind; offset = to + length i.count + length i.front });
      is = record {
        cause = k.cause;
        unknown = k.unknown;
        kind = k.kind;
        item = record {
          number = i.number;
          count = i.count;
          before = i.before;
          items = i.items;
          front = i.front;
          back = i.back;
          parts = i.parts;
          counts = i.counts;
          fewer = i.fewer;
          spelled = i.spelled;
          at = refl;
          fails = i.fails;
        };
        counted = k.counted;
        before = k.before;
      };
      alike = tt;
    }

-- of what the section lists the same is known, but that an error has another offset
record IsKnownStill {A : Type 0} (Spells : List ℕ → A → Type 0) (Fails : List ℕ → Cause → Type 0) (new : List ℕ) (left : List Section) (id : SectionId)
    (k : Known A) : Type 0 where
  pub error : Option ModuleError
  pub is : Knows Spells Fails new left id (record k { unknown = error })
  pub alike : AreAlike error k.unknown

known_still : {A : Type 0} (Spells : List ℕ → A → Type 0) (Fails : List ℕ → Cause → Type 0) (bytes new : List ℕ) (sections left : List Section)
    (id : SectionId) (k : Known A) → Stay bytes new sections left → (id ≡ ids.Custom → ⊥) → Knows Spells Fails bytes sections id k
    → IsKnownStill Spells Fails new left id k
known_still Spells Fails bytes new sections left id k stay other (inl h) =
    let text = slice_range bytes h.0.contents h.0.end in
    let f = stay.first id text other (record { s = h.0; first = h.1; contains = refl }) in
    let a = known_at Spells Fails h.0.contents f.s.contents text k.count k.items k.unknown h.2 in
    record {
      error = a.error;
      is = inl (f.s, f.first, subst (λ (l : List ℕ). IsKnown Spells Fails f.s.contents l k.count k.items a.error) (sym f.contains) a.is);
      alike = a.alike;
    }
known_still Spells Fails bytes new sections left id k stay other (inr h) =
    record { error = k.unknown; is = inr (stay.none id h.0, h.1); alike = alike_itself k.unknown }

-- ---- code entries

-- a part of bytes stands between the others
record IsPart (bytes : List ℕ) (from : ℕ) (text : List ℕ) : Type 0 where
  pub before : List ℕ
  pub behind : List ℕ
  pub parts : bytes ≡ before ++ (text ++ behind)
  pub at : length before ≡ from

part_at : (bytes : List ℕ) (from to : ℕ) → from ≤ length bytes → IsPart bytes from (slice_range bytes from to)
part_at bytes from to inside =
    let rest = drop from bytes in
    record {
      before = take from bytes;
      behind = drop (to - from) rest;
      parts = sym (take-append-drop from bytes) ∙ ap (λ (l : List ℕ). take from bytes ++ l) (sym (take-append-drop (to - from) rest));
      at = length-take-le from bytes inside;
    }

record AreEntriesStill (bytes : List ℕ) (entries : List Entry) (new : List ℕ) (left : List Section) : Type 0 where
  pub again : List Entry
  pub are : Lists SpellsEntries new left ids.Code again
  pub count : length again ≡ length entries
  pub each : (k : ℕ) (old : Entry) → slice_get entries k ≡ Some old → HasContents new again k (slice_range bytes old.contents old.end)

entries_still : (bytes new : List ℕ) (sections left : List Section) (entries : List Entry) →
    ((s : Section) → IsFirstWith sections ids.Code s → IsWithin 8 (length bytes) s)
    → ((s : Section) → IsFirstWith left ids.Code s → IsWithin 8 (length new) s) → Stay bytes new sections left
    → Lists SpellsEntries bytes sections ids.Code entries → AreEntriesStill bytes entries new left
entries_still bytes new sections left entries inside inside' stay (inl h) =
    let s = h.0 in
    let text = slice_range bytes s.contents s.end in
    let f = stay.first ids.Code text (λ custom. absurd cc) (record { s = s; first = h.1; contains = refl }) in
    let w = inside s h.1 in
    let w' = inside' f.s f.first in
    let old = part_at bytes s.contents s.end (omega (arith, w.order, w.last)) in
    let there = subst (IsPart new f.s.contents) f.contains (part_at new f.s.contents f.s.end (omega (arith, w'.order, w'.last))) in
    let e = entries_moved bytes old.before old.behind text new there.before there.behind s.contents f.s.contents entries old.parts old.at h.2
    there.parts there.at in
    record {
      again = e.moved;
      are = inl (f.s, f.first, subst (λ (l : List ℕ). SpellsEntries f.s.contents l e.moved) (sym f.contains) e.spells);
      count = e.count;
      each = e.each;
    }
entries_still bytes new sections left entries inside inside' stay (inr h) = record {
  again = [];
  are = inr (stay.none ids.Code h.0, refl);
  count = ap length (sym h.1);
  each = λ k old there. absurd (no_entry entries k old h.1 there);
}

-- ---- the module

pub same_module : (bytes : List ℕ) (info : Module) (layout : Layout) (new : List ℕ) →
    ((b : List ℕ) (ss : List Section) (id : SectionId) (s : Section) → SpellsModule b ss → IsFirstWith ss id s → IsWithin 8 (length b) s)
    → IsModule bytes info layout → (w : IsWithoutDebug bytes layout.sections new) → Stay bytes new layout.sections w.spells.sections
    → IsSameModule bytes info layout new
same_module bytes info layout new within m w stay =
    let ss = layout.sections in
    let left = w.spells.sections in
    let types = known_still SpellsTypeGroup FailsTypeGroup bytes new ss left ids.Type m.types stay (λ custom. absurd cc) m.types_are in
    let imports = known_still SpellsImport FailsImport bytes new ss left ids.Import m.imports stay (λ custom. absurd cc) m.imports_are in
    let tables = known_still SpellsTable FailsTable bytes new ss left ids.Table m.tables stay (λ custom. absurd cc) m.tables_are in
    let memories = known_still SpellsMemoryType FailsMemoryType bytes new ss left ids.Memory m.memories stay (λ custom. absurd cc) m.memories_are in
    let globals = known_still SpellsGlobal FailsGlobal bytes new ss left ids.Global m.globals stay (λ custom. absurd cc) m.globals_are in
    let entries = entries_still bytes new ss left layout.entries (λ s is. within bytes ss ids.Code s m.spells is)
    (λ s is. within new left ids.Code s w.spells.spells is) stay m.entries_are in
    record {
      again = record {
        sections = left;
        imported_functions = layout.imported_functions;
        own_globals = layout.own_globals;
        entries = entries.again;
        unknown = record {
          types = types.error;
          imports = imports.error;
          tables = tables.error;
          memories = memories.error;
          globals = globals.error;
        };
      };
      is = record {
        spells = w.spells.spells;
        input = refl;
        types = record m.types { unknown = types.error };
        imports = record m.imports { unknown = imports.error };
        functions = m.functions;
        tables = record m.tables { unknown = tables.error };
        memories = record m.memories { unknown = memories.error };
        globals = record m.globals { unknown = globals.error };
        types_are = types.is;
        imports_are = imports.is;
        functions_are = held_still [] (SpellsList (SpellsUnsigned 32)) bytes new ss left ids.Function m.functions stay (λ custom. absurd cc)
            m.functions_are;
        tables_are = tables.is;
        memories_are = memories.is;
        globals_are = globals.is;
        entries_are = entries.are;
        all_types = m.all_types;
        all_functions = space_alike info.functions (functions_of m.imports.items) m.functions m.imports.unknown imports.error imports.alike
            m.all_functions;
        all_tables = space_alike info.tables (tables_of m.imports.items) m.tables.items m.imports.unknown imports.error imports.alike m.all_tables;
        all_memories = space_alike info.memories (memories_of m.imports.items) m.memories.items m.imports.unknown imports.error imports.alike
            m.all_memories;
        all_globals = space_alike info.globals (globals_of m.imports.items) m.globals.items m.imports.unknown imports.error imports.alike
            m.all_globals;
        one_reference = m.one_reference;
        imported = m.imported;
        own = m.own;
        entry_each = entries.count ∙ m.entry_each;
        unknown_types = refl;
        unknown_imports = refl;
        unknown_tables = refl;
        unknown_memories = refl;
        unknown_globals = refl;
      };
      imported = refl;
      imports = none_alike layout.unknown.imports imports.error m.imports.unknown m.unknown_imports imports.alike;
      globals = none_alike layout.unknown.globals globals.error m.globals.unknown m.unknown_globals globals.alike;
      count = entries.count;
      entries = entries.each;
    }
