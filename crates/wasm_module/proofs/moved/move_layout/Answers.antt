use Rattle.std.proofs.Common.{◌≡◌, ◌+◌, ◌-◌, List, ◌∷◌, ◌++◌, length, drop, map, sym, ap, ap₂, subst, ◌∙◌, arith}
use Rattle.std.specs.Prelude.{slice_range}
use Rattle.std.proofs.lemmas.List.{take_at}
use Rattle.wasm_code.specs.Code.{shortest}
use Rattle.wasm_sections.specs.declared.section.Section.{Section}
use Rattle.wasm_sections.specs.declared.id.SectionId.TheVariants as ids
use Rattle.wasm_sections.specs.Find.{IsFirstWith}
use Rattle.wasm_lists.specs.declared.entries.Entry.{Entry}
use Rattle.wasm_module.specs.Module.{Layout}
use Rattle.wasm_module.specs.Moved.{moved, CanMoveAround}
use Rattle.wasm_module.proofs.MovedLemmas.{move_of, same_entry, same_layout}
use Rattle.wasm_module.proofs.moved.move_layout.Goals as goal

pub overflow_sub-start : goal.overflow_sub-start
overflow_sub-start c =
    let place = subst (λ (l : List Section). IsFirstWith l ids.Code c.code_section-place.result) c.deref.ensures.value c.code_section-place.ensures in
    let m = move_of c.args.layout c.args.sections.items c.args.n c.args.bytes.now c.requires c.entries_are_inside.ensures
    (λ k lt. c.shortest_is_a_spelling.ensures.unsigned 32 k (omega arith) (omega arith) lt) (omega (arith, c.well_formed)) c.code_place.result.0
    c.code_section-place.result c.code_place.result.1 (c.code_place.ensures c.requires.bytes c.requires.info c.requires.is) place in
    m.first

pub overflow_add-start : goal.overflow_add-start
overflow_add-start c =
    let place = subst (λ (l : List Section). IsFirstWith l ids.Code c.code_section-place.result) c.deref.ensures.value c.code_section-place.ensures in
    let m = move_of c.args.layout c.args.sections.items c.args.n c.args.bytes.now c.requires c.entries_are_inside.ensures
    (λ k lt. c.shortest_is_a_spelling.ensures.unsigned 32 k (omega arith) (omega arith) lt) (omega (arith, c.well_formed)) c.code_place.result.0
    c.code_section-place.result c.code_place.result.1 (c.code_place.ensures c.requires.bytes c.requires.info c.requires.is) place in
    omega (arith, m.starts, m.order, m.inside, c.well_formed)

pub overflow_sub-end : goal.overflow_sub-end
overflow_sub-end c =
    let place = subst (λ (l : List Section). IsFirstWith l ids.Code c.code_section-place.result) c.deref.ensures.value c.code_section-place.ensures in
    let m = move_of c.args.layout c.args.sections.items c.args.n c.args.bytes.now c.requires c.entries_are_inside.ensures
    (λ k lt. c.shortest_is_a_spelling.ensures.unsigned 32 k (omega arith) (omega arith) lt) (omega (arith, c.well_formed)) c.code_place.result.0
    c.code_section-place.result c.code_place.result.1 (c.code_place.ensures c.requires.bytes c.requires.info c.requires.is) place in
    m.last

pub overflow_sub-end-2 : goal.overflow_sub-end-2
overflow_sub-end-2 c =
    let place = subst (λ (l : List Section). IsFirstWith l ids.Code c.code_section-place.result) c.deref.ensures.value c.code_section-place.ensures in
    let m = move_of c.args.layout c.args.sections.items c.args.n c.args.bytes.now c.requires c.entries_are_inside.ensures
    (λ k lt. c.shortest_is_a_spelling.ensures.unsigned 32 k (omega arith) (omega arith) lt) (omega (arith, c.well_formed)) c.code_place.result.0
    c.code_section-place.result c.code_place.result.1 (c.code_place.ensures c.requires.bytes c.requires.info c.requires.is) place in
    omega (arith, m.ends)

pub entry_between-here-requires-clause-order : goal.entry_between-here-requires-clause-order
entry_between-here-requires-clause-order c =
    let place = subst (λ (l : List Section). IsFirstWith l ids.Code c.code_section-place.result) c.deref.ensures.value c.code_section-place.ensures in
    let m = move_of c.args.layout c.args.sections.items c.args.n c.args.bytes.now c.requires c.entries_are_inside.ensures
    (λ k lt. c.shortest_is_a_spelling.ensures.unsigned 32 k (omega arith) (omega arith) lt) (omega (arith, c.well_formed)) c.code_place.result.0
    c.code_section-place.result c.code_place.result.1 (c.code_place.ensures c.requires.bytes c.requires.info c.requires.is) place in
    omega (arith, m.starts, m.ends, m.order)

pub entry_between-here-requires-clause-inside : goal.entry_between-here-requires-clause-inside
entry_between-here-requires-clause-inside c =
    let place = subst (λ (l : List Section). IsFirstWith l ids.Code c.code_section-place.result) c.deref.ensures.value c.code_section-place.ensures in
    let m = move_of c.args.layout c.args.sections.items c.args.n c.args.bytes.now c.requires c.entries_are_inside.ensures
    (λ k lt. c.shortest_is_a_spelling.ensures.unsigned 32 k (omega arith) (omega arith) lt) (omega (arith, c.well_formed)) c.code_place.result.0
    c.code_section-place.result c.code_place.result.1 (c.code_place.ensures c.requires.bytes c.requires.info c.requires.is) place in
    omega (arith, m.ends, m.inside)

pub entry_between-here-requires-clause-sized : goal.entry_between-here-requires-clause-sized
entry_between-here-requires-clause-sized c =
    let place = subst (λ (l : List Section). IsFirstWith l ids.Code c.code_section-place.result) c.deref.ensures.value c.code_section-place.ensures in
    let m = move_of c.args.layout c.args.sections.items c.args.n c.args.bytes.now c.requires c.entries_are_inside.ensures
    (λ k lt. c.shortest_is_a_spelling.ensures.unsigned 32 k (omega arith) (omega arith) lt) (omega (arith, c.well_formed)) c.code_place.result.0
    c.code_section-place.result c.code_place.result.1 (c.code_place.ensures c.requires.bytes c.requires.info c.requires.is) place in (
      length c.requires.contents,
      record {
        count = shortest (length c.requires.contents);
        items = c.requires.contents;
        parts = ap₂ (slice_range c.args.bytes.now) (sym m.starts) (omega (arith, m.ends)) ∙ m.spelled;
        counts = m.counts;
      },
    )

pub move_around-requires : goal.move_around-requires
move_around-requires c =
    let place = subst (λ (l : List Section). IsFirstWith l ids.Code c.code_section-place.result) c.deref.ensures.value c.code_section-place.ensures in
    let m = move_of c.args.layout c.args.sections.items c.args.n c.args.bytes.now c.requires c.entries_are_inside.ensures
    (λ k lt. c.shortest_is_a_spelling.ensures.unsigned 32 k (omega arith) (omega arith) lt) (omega (arith, c.well_formed)) c.code_place.result.0
    c.code_section-place.result c.code_place.result.1 (c.code_place.ensures c.requires.bytes c.requires.info c.requires.is) place in
    let entries : c.args.layout.entries ≡ c.deref_mut.result.now = sym (c.deref_mut.ensures.value ∙ ap (λ (l : Layout). l.entries) c.layout.view_is) in
    let end : m.here.end ≡ c.entry_between-here.result.end = omega (arith, c.entry_between-here.ensures.end, m.ends) in
    let around = subst (λ (es : List Entry). CanMoveAround es c.args.n c.code_place.result.0.contents c.code_section-place.result.contents m.here.end) entries
    m.around in
    subst (CanMoveAround c.deref_mut.result.now c.args.n c.code_place.result.0.contents c.code_section-place.result.contents) end around

pub returns : goal.returns
returns c is =
    let place = subst (λ (l : List Section). IsFirstWith l ids.Code c.code_section-place.result) c.deref.ensures.value c.code_section-place.ensures in
    let m = move_of c.args.layout c.args.sections.items c.args.n c.args.bytes.now is c.entries_are_inside.ensures
    (λ k lt. c.shortest_is_a_spelling.ensures.unsigned 32 k (omega arith) (omega arith) lt) (omega (arith, c.well_formed)) c.code_place.result.0
    c.code_section-place.result c.code_place.result.1 (c.code_place.ensures is.bytes is.info is.is) place in
    let entries : c.deref_mut.result.now ≡ c.args.layout.entries = c.deref_mut.ensures.value ∙ ap (λ (l : Layout). l.entries) c.layout.view_is in
    let here = c.entry_between-here.ensures in
    let spelled : slice_range c.args.bytes.now (c.code_section-place.result.contents + (c.code_place.result.1.start - c.code_place.result.0.contents))
    (c.code_section-place.result.end - (c.code_place.result.0.end - c.code_place.result.1.end)) ≡ shortest (length is.contents) ++ is.contents =
    ap₂ (slice_range c.args.bytes.now) (sym m.starts) (omega (arith, m.ends)) ∙ m.spelled in
    let contents = here.contents (shortest (length is.contents)) is.contents (length is.contents) spelled m.counts in
    let same : c.entry_between-here.result ≡ m.here = same_entry c.entry_between-here.result m.here (here.start ∙ sym m.starts)
    (omega (arith, contents, m.contents_end, m.ends)) (omega (arith, here.end, m.ends)) in
    let moves = c.move_around.ensures m.before m.behind c.code_place.result.1 (entries ∙ m.entries_are) m.at in
    let again : c.move_around.new.entries ≡ is.reread.again.entries = moves
    ∙ ap (λ (e : Entry). map (moved c.code_place.result.0.contents c.code_section-place.result.contents) m.before
    ++ e ∷ map (moved c.code_place.result.1.end e.end) m.behind) same ∙ sym m.again_are in
    let long : length c.move_around.new.entries ≡ c.layout.inside.entries.len =
    omega (arith, ap length again, is.reread.count, ap length entries, c.deref_mut.ensures.len) in
    let items = take_at c.move_around.new.entries (drop (length c.move_around.new.entries) c.layout.inside.entries.items) c.layout.inside.entries.len long in
    same_layout _ _ is.sections_are (ap (λ (l : Layout). l.imported_functions) c.layout.view_is ∙ sym is.reread.imported)
    (ap (λ (l : Layout). l.own_globals) c.layout.view_is) (items ∙ again) (ap (λ (l : Layout). l.unknown) c.layout.view_is ∙ sym is.reread.unknown)
