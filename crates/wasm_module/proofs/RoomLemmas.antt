-- Where globals may be appended before the code, and where an entry of the code stands.
use Rattle.std.proofs.Common.{◌≡◌, ℕ, zero, suc, ◌+◌, ◌<◌, ◌^◌, List, [], ◌++◌, length, take, Option, Result, Ok, Err, Some, None, sym, ap}
use Rattle.std.proofs.Common.{subst, ◌∙◌, zero-add, arith}
use Rattle.std.specs.Prelude.{IfOk, OnOk, slice_get, slice_range}
use Rattle.std.proofs.lemmas.List.{append-nil}
use Rattle.wasm_code.specs.declared.fault.Cause.{Cause}
use Rattle.wasm_code.specs.Number.{SpellsUnsigned}
use Rattle.wasm_code.specs.Code.{shortest}
use Rattle.wasm_types.specs.Module.{Module}
use Rattle.wasm_types.specs.declared.types.PrimitiveTypeInfo.{PrimitiveTypeInfo}
use Rattle.wasm_sections.specs.declared.section.Section.{Section}
use Rattle.wasm_sections.specs.declared.id.SectionId.{SectionId}
use Rattle.wasm_sections.specs.declared.id.SectionId.TheVariants as ids
use Rattle.wasm_sections.specs.declared.fault.ModuleError.{ModuleError}
use Rattle.wasm_sections.specs.declared.writing.WriteError.{WriteError}
use Rattle.wasm_sections.specs.Section.{SpellsModule}
use Rattle.wasm_sections.specs.Find.{LackId, IsFirstWith, IsPlaceOf}
use Rattle.wasm_sections.specs.Laws.{IsWithin, AreJoined}
use Rattle.wasm_sections.specs.Writing.{section_code}
use Rattle.wasm_lists.specs.declared.entries.Entry.{Entry}
use Rattle.wasm_lists.specs.Known.{nothing_listed, IsKnown, SpellsKnown}
use Rattle.wasm_lists.specs.List.{Each}
use Rattle.wasm_lists.specs.Globals.{SpellsGlobal, FailsGlobal}
use Rattle.wasm_lists.specs.Entries.{SpellsEntries}
use Rattle.wasm_module.specs.Module.{Layout, IsModule}
use Rattle.wasm_module.specs.Rewritten.{globals_code, new_globals, AddsGlobals}
use Rattle.wasm_module.specs.Room.{CountBeginsText, HasRoom, IsCodePlace, globals_with}
use Rattle.wasm_module.proofs.FindLemmas.{lists_at, lists_nothing, first_before, place_before}
use Rattle.wasm_module.proofs.InsideLemmas.{code_entry}

-- ---- the global section

pub known_counted : {A : Type 0} (Spells : List ℕ → A → Type 0) (Fails : List ℕ → Cause → Type 0) (start : ℕ) (text : List ℕ) (n m : ℕ) (xs : List A)
    (o : Option ModuleError) → IsKnown Spells Fails start text n xs o → m ≡ n → CountBeginsText text m
known_counted Spells Fails start text n m xs None k e =
    let l = k.list in
    record {
      count = l.front;
      items = l.back;
      parts = l.parts;
      counts = subst (SpellsUnsigned 32 l.front) (each_length Spells l.value l.back xs l.second ∙ sym k.counted ∙ sym e) l.first;
    }
  where
    each_length : {A : Type 0} (Spells : List ℕ → A → Type 0) (n : ℕ) (text : List ℕ) (xs : List A) → Each n Spells text xs → n ≡ length xs
    each_length Spells zero text xs p = ap length p.1
    each_length Spells (suc n) text xs p =
        let less = each_length Spells n p.back p.second.value p.second.spells in omega (arith, less, ap length p.second.made)
known_counted Spells Fails start text n m xs (Some u) k e =
    let i = k.item in
    record {
      count = i.count;
      items = i.front ++ i.back;
      parts = i.parts;
      counts = subst (SpellsUnsigned 32 i.count) (sym (e ∙ k.counted)) i.counts;
    }

pub place_at : (ss ss' : List Section) (bytes : List ℕ) (place : ℕ) → ss ≡ ss' →
    ((b : List ℕ) → SpellsModule b ss → LackId ss ids.Global → (ids.Global ≡ ids.Custom → ⊥) → IsPlaceOf ss ids.Global place)
    → SpellsModule bytes ss' → LackId ss' ids.Global → IsPlaceOf ss' ids.Global place
place_at ss ss' bytes place e f m lack =
    subst (λ (l : List Section). (b : List ℕ) → SpellsModule b l → LackId l ids.Global → (ids.Global ≡ ids.Custom → ⊥) → IsPlaceOf l ids.Global place)
    e f bytes m
    lack (λ same. absurd cc)

pub new_is : (count : ℕ) (more : List PrimitiveTypeInfo) → count ≡ 0 + length more → globals_with count [] more ≡ new_globals more
new_is count more e = ap (λ (n : ℕ). shortest n ++ [] ++ globals_code more) (e ∙ zero-add (length more))
    ∙ ap (λ (l : List ℕ). l ++ globals_code more) (append-nil (shortest (length more)))

pub adds : {V : Type 0} (items : V → List ℕ) (bytes : List ℕ) (layout : Layout) (more : List PrimitiveTypeInfo) (to place : ℕ)
    (contents before after : List ℕ) (r : Result V WriteError) → LackId layout.sections ids.Global → IsPlaceOf layout.sections ids.Global place
    → contents ≡ new_globals more → length more < 2 ^ 32 → before ≡ take place bytes → after ≡ slice_range bytes place to
    → OnOk r (length contents < 2 ^ 32) → IfOk r (λ v. items v ≡ before ++ section_code ids.Global contents ++ after)
    → IfOk r (λ v. AddsGlobals bytes layout more to (items v))
adds items bytes layout more to place contents before after (Ok v) none is e few b a sized w = record {
  none = none;
  place = place;
  is = is;
  few = few;
  sized = subst (λ (l : List ℕ). length l < 2 ^ 32) e sized;
  front_is = cc;
}
adds items bytes layout more to place contents before after (Err e') none is e few b a sized w = w

-- ---- the code section

pub no_code : (bytes : List ℕ) (info : Module) (layout : Layout) (n : ℕ) → IsModule bytes info layout → n < length layout.entries →
    LackId layout.sections ids.Code → ⊥
no_code bytes info layout n m lt lack =
    let e = lists_nothing [] SpellsEntries bytes layout.sections ids.Code layout.entries m.entries_are lack in omega (arith, ap length e, lt)

room : (bytes : List ℕ) (info : Module) (layout : Layout) (code : Section) → AreJoined 8 layout.sections (length bytes) →
    ((s : Section) (id : SectionId) → IsFirstWith layout.sections id s → IsWithin 8 (length bytes) s) → IsModule bytes info layout
    → IsFirstWith layout.sections ids.Code code → HasRoom bytes layout code.start
room bytes info layout code joined within m is =
    let w = within code ids.Code is in
    record {
      spells = m.spells;
      inside = omega (arith, w.contents, w.order, w.last);
      globals = λ s g.
          let v = within s ids.Global g in
          record {
            start = omega (arith, v.contents);
            order = v.order;
            before = first_before layout.sections ids.Global ids.Code s code (length bytes) m.spells.ordered joined g is (omega arith) (omega arith);
            counted = known_counted SpellsGlobal FailsGlobal s.contents (slice_range bytes s.contents s.end) m.globals.count layout.own_globals
                m.globals.items m.globals.unknown
                (lists_at nothing_listed (SpellsKnown SpellsGlobal FailsGlobal) bytes layout.sections ids.Global m.globals s m.globals_are g) m.own;
          };
      place = λ place p. place_before layout.sections ids.Global ids.Code place code (length bytes) joined p is (omega arith);
    }

pub place_is : (bytes : List ℕ) (info : Module) (layout : Layout) (n : ℕ) (code : Section) (entry : Entry) → AreJoined 8 layout.sections (length bytes) →
    ((s : Section) (id : SectionId) → IsFirstWith layout.sections id s → IsWithin 8 (length bytes) s) → IsModule bytes info layout
    → IsFirstWith layout.sections ids.Code code → slice_get layout.entries n ≡ Some entry → IsCodePlace bytes layout n code entry
place_is bytes info layout n code entry joined within m is e =
    let w = within code ids.Code is in
    let i = code_entry bytes layout.sections layout.entries code n entry m.entries_are is w e in
    record {
      code_is = is;
      entry_is = e;
      room = room bytes info layout code joined within m is;
      placed = record { first = i.first; order = omega (arith, i.sized, i.ordered); last = i.last; inside = w.last };
    }
