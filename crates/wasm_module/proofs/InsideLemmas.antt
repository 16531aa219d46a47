-- Where code entries stand in a module's bytes.
use Rattle.std.proofs.Common.{◌≡◌, inl, inr, ℕ, zero, suc, ◌+◌, ◌<◌, ◌≤◌, List, [], ◌∷◌, length, Some, refl, sym, ap, subst, ◌∙◌, arith}
use Rattle.std.specs.Prelude.{slice_get, slice_range}
use Rattle.std.proofs.lemmas.List.{length-append}
use Rattle.std.proofs.lemmas.Grind.{common_steps}
use Rattle.wasm_code.specs.Number.{IsGroup}
use Rattle.wasm_sections.specs.declared.section.Section.{Section}
use Rattle.wasm_sections.specs.declared.id.SectionId.{SectionId}
use Rattle.wasm_sections.specs.declared.id.SectionId.TheVariants as ids
use Rattle.wasm_sections.specs.Laws.{IsWithin}
use Rattle.wasm_sections.specs.Find.{IsFirstWith}
use Rattle.wasm_lists.specs.declared.entries.Entry.{Entry}
use Rattle.wasm_lists.specs.List.{Each}
use Rattle.wasm_lists.specs.Entries.{SpellsMeasuredSize, entries_from, SpellsEntries}
use Rattle.wasm_module.specs.Module.{Lists}
use Rattle.wasm_module.specs.Inside.{IsInside}
use Rattle.wasm_module.specs.Contents.{AreContents}
use Rattle.wasm_module.proofs.FindLemmas.{lists_at}

-- ---- an entry's text

group_long : (bytes : List ℕ) → IsGroup bytes → 0 < length bytes
group_long [] g = absurd g
group_long (b ∷ bytes) g = omega arith

pub record IsSizedText (text : List ℕ) (x : ℕ × ℕ) : Type 0 where
  pub long : 0 < x.1
  pub whole : length text ≡ x.1 + x.0

pub sized_text : (text : List ℕ) (x : ℕ × ℕ) → SpellsMeasuredSize text x → IsSizedText text x
sized_text text x p =
    let long : 0 < length p.front = group_long p.front p.first.spells.group in
    let at : length p.front ≡ p.value.1 = p.first.bytes in
    let is : p.value ≡ x = p.second.made in
    let back : length p.back ≡ p.value.0 = p.second.spells.0 in
    subst (IsSizedText text) is (record {
      long = omega arith;
      whole = omega (arith, ap length p.parts, length-append p.front p.back);
    })

-- ---- entries behind one another

-- where an entry stands in a text from one offset to another
pub record IsEntryWithin (from to : ℕ) (entry : Entry) : Type 0 where
  pub first : from ≤ entry.start
  pub sized : entry.start < entry.contents
  pub ordered : entry.contents ≤ entry.end
  pub last : entry.end ≤ to

some_is : {A : Type 0} (x y : A) → Some x ≡ Some y → x ≡ y
some_is x y e = cc

here : (size : ℕ × ℕ) (sizes : List (ℕ × ℕ)) (start to : ℕ) (entry : Entry) → 0 < size.1 → start + size.1 + size.0 ≤ to →
    slice_get (entries_from start (size ∷ sizes)) 0 ≡ Some entry → IsEntryWithin start to entry
here size sizes start to entry long whole e =
    subst (IsEntryWithin start to) (some_is _ _ e) (record { first = omega arith; sized = omega arith; ordered = omega arith; last = whole })

nothing : (start k : ℕ) (entry : Entry) → slice_get (entries_from start []) k ≡ Some entry → ⊥
nothing start k entry e = cc

there : (start mid to : ℕ) (entry : Entry) → start ≤ mid → IsEntryWithin mid to entry → IsEntryWithin start to entry
there start mid to entry le w = record { first = omega (arith, w.first); sized = w.sized; ordered = w.ordered; last = w.last }

pub entry_within : (n : ℕ) (text : List ℕ) (sizes : List (ℕ × ℕ)) (start k : ℕ) (entry : Entry) → Each n SpellsMeasuredSize text sizes →
    slice_get (entries_from start sizes) k ≡ Some entry → IsEntryWithin start (start + length text) entry
entry_within zero text sizes start k entry p e =
    absurd (nothing start k entry (ap (λ (l : List (ℕ × ℕ)). slice_get (entries_from start l) k) p.1 ∙ e))
entry_within (suc n) text sizes start zero entry p e =
    let t = sized_text p.front p.value p.first in
    here p.value p.second.value start (start + length text) entry t.long
    (omega (arith, t.whole, ap length p.parts, length-append p.front p.back))
    (ap (λ (l : List (ℕ × ℕ)). slice_get (entries_from start l) 0) p.second.made ∙ e)
entry_within (suc n) text sizes start (suc k) entry p e =
    let t = sized_text p.front p.value p.first in
    let next : ℕ = start + p.value.1 + p.value.0 in
    let w = entry_within n p.back p.second.value next k entry p.second.spells
    (ap (λ (l : List (ℕ × ℕ)). slice_get (entries_from start l) (suc k)) p.second.made ∙ e) in
    let whole : next + length p.back ≡ start + length text = omega (arith, t.whole, ap length p.parts, length-append p.front p.back) in
    there start next (start + length text) entry (omega arith) (subst (λ (to : ℕ). IsEntryWithin next to entry) whole w)

-- ---- the entries of a module

pub listed_within : (start : ℕ) (text : List ℕ) (entries : List Entry) (k : ℕ) (entry : Entry) → SpellsEntries start text entries →
    slice_get entries k ≡ Some entry → IsEntryWithin start (start + length text) entry
listed_within start text entries k entry p e =
    let from : ℕ = start + length p.list.front in
    let w = entry_within p.list.value p.list.back p.sizes from k entry p.list.second (ap (λ (l : List Entry). slice_get l k) (sym p.placed) ∙ e) in
    let whole : from + length p.list.back ≡ start + length text = omega (arith, ap length p.list.parts, length-append p.list.front p.list.back) in
    there start from (start + length text) entry (omega arith) (subst (λ (to : ℕ). IsEntryWithin from to entry) whole w)

pub range_long : (bytes : List ℕ) (from to : ℕ) → from ≤ to → to ≤ length bytes → from + length (slice_range bytes from to) ≡ to
range_long bytes from to le fits = grind (arith, common_steps)

-- an entry lies in the contents of the code section
pub code_entry : (bytes : List ℕ) (sections : List Section) (entries : List Entry) (code : Section) (n : ℕ) (entry : Entry) →
    Lists SpellsEntries bytes sections ids.Code entries → IsFirstWith sections ids.Code code → IsWithin 8 (length bytes) code
    → slice_get entries n ≡ Some entry → IsEntryWithin code.contents code.end entry
code_entry bytes sections entries code n entry l is w e =
    let p = lists_at [] SpellsEntries bytes sections ids.Code entries code l is in
    let long : code.contents + length (slice_range bytes code.contents code.end) ≡ code.end = range_long bytes code.contents code.end w.order w.last in
    subst (λ (to : ℕ). IsEntryWithin code.contents to entry) long
    (listed_within code.contents (slice_range bytes code.contents code.end) entries n entry p e)

pub no_entry : (entries : List Entry) (n : ℕ) (entry : Entry) → entries ≡ [] → slice_get entries n ≡ Some entry → ⊥
no_entry [] n entry e f = cc
no_entry (x ∷ entries) n entry e f = cc

pub entry_inside : (bytes : List ℕ) (sections : List Section) (entries : List Entry) (n : ℕ) (entry : Entry) →
    ((s : Section) → IsFirstWith sections ids.Code s → IsWithin 8 (length bytes) s)
    → Lists SpellsEntries bytes sections ids.Code entries → slice_get entries n ≡ Some entry → IsInside bytes entry
entry_inside bytes sections entries n entry within l e =
    elim l [
      | inl p ↦
          let w = within p.0 p.1 in
          let i = code_entry bytes sections entries p.0 n entry (inl p) p.1 w e in
          record { sized = i.sized; ordered = i.ordered; ends = omega (arith, i.last, w.last) }
      | inr p ↦ absurd (no_entry entries n entry p.1 e)
    ]

-- ---- contents

pub contents_are : (bytes : List ℕ) (sections : List Section) (id : SectionId) (s : Section) (text : List ℕ) → IsFirstWith sections id s →
    IsWithin 8 (length bytes) s → text ≡ slice_range bytes s.contents s.end
    → AreContents bytes sections id s.contents text
contents_are bytes sections id s text is w e =
    let long = range_long bytes s.contents s.end w.order w.last in
    record { section = s; is = is; starts = refl; text_is = e; fits = omega (arith, ap length e, long, w.last) }
