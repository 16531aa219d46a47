-- How many bytes code entries contain.
use Rattle.std.proofs.Common.{◌≡◌, inl, inr, ℕ, zero, suc, ◌+◌, ◌-◌, ◌≤◌, List, length, sym, ap, subst, arith}
use Rattle.std.specs.Prelude.{slice_range}
use Rattle.std.specs.List.{sum_by}
use Rattle.std.proofs.lemmas.List.{length-append}
use Rattle.std.proofs.lemmas.List.Sums.{sum_by-cons}
use Rattle.wasm_types.specs.Module.{Module}
use Rattle.wasm_sections.specs.declared.section.Section.{Section}
use Rattle.wasm_sections.specs.declared.id.SectionId.TheVariants as ids
use Rattle.wasm_sections.specs.Laws.{IsWithin}
use Rattle.wasm_sections.specs.Find.{IsFirstWith}
use Rattle.wasm_lists.specs.declared.entries.Entry.{Entry}
use Rattle.wasm_lists.specs.List.{Each}
use Rattle.wasm_lists.specs.Entries.{SpellsMeasuredSize, entries_from, SpellsEntries}
use Rattle.wasm_module.specs.Module.{Layout, IsModule, Lists}
use Rattle.wasm_module.proofs.InsideLemmas.{range_long, sized_text}

abbrev own_size : Entry → ℕ
own_size entry = entry.end - entry.contents

sizes_few : (n : ℕ) (text : List ℕ) (sizes : List (ℕ × ℕ)) (start : ℕ) → Each n SpellsMeasuredSize text sizes →
    sum_by own_size (entries_from start sizes) ≤ length text
sizes_few zero text sizes start p =
    subst (λ (l : List (ℕ × ℕ)). sum_by own_size (entries_from start l) ≤ length text) p.1 (omega arith)
sizes_few (suc n) text sizes start p =
    let t = sized_text p.front p.value p.first in
    let next : ℕ = start + p.value.1 + p.value.0 in
    let rest = sizes_few n p.back p.second.value next p.second.spells in
    let first : Entry = record { start = start; contents = start + p.value.1; end = next } in
    let more = sum_by-cons own_size first (entries_from next p.second.value) in
    let own : own_size first ≡ p.value.0 = omega arith in
    subst (λ (l : List (ℕ × ℕ)). sum_by own_size (entries_from start l) ≤ length text) p.second.made
    (omega (arith, t.whole, rest, more, own, ap length p.parts, length-append p.front p.back))

listed_few : (start : ℕ) (text : List ℕ) (entries : List Entry) → SpellsEntries start text entries → sum_by own_size entries ≤ length text
listed_few start text entries p =
    let few = sizes_few p.list.value p.list.back p.sizes (start + length p.list.front) p.list.second in
    subst (λ (l : List Entry). sum_by own_size l ≤ length text) (sym p.placed)
    (omega (arith, few, ap length p.list.parts, length-append p.list.front p.list.back))

lists_few : (bytes : List ℕ) (sections : List Section) (entries : List Entry) →
    ((s : Section) → IsFirstWith sections ids.Code s → IsWithin 8 (length bytes) s) → Lists SpellsEntries bytes sections ids.Code entries →
    sum_by own_size entries ≤ length bytes
lists_few bytes sections entries within l = elim l [
  | inl p ↦
      let w = within p.0 p.1 in
      let few = listed_few p.0.contents (slice_range bytes p.0.contents p.0.end) entries p.2 in
      let long = range_long bytes p.0.contents p.0.end w.order w.last in
      omega (arith, few, long, w.last)
  | inr p ↦ subst (λ (l : List Entry). sum_by own_size l ≤ length bytes) (sym p.1) (omega arith)
]

pub entries_few : (bytes : List ℕ) (info : Module) (layout : Layout) →
    ((s : Section) → IsFirstWith layout.sections ids.Code s → IsWithin 8 (length bytes) s) → IsModule bytes info layout →
    sum_by own_size layout.entries ≤ length bytes
entries_few bytes info layout within is = lists_few bytes layout.sections layout.entries within is.entries_are
