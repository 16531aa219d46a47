use Rattle.std.proofs.Common.{◌≡◌, List, Some, refl, sym, ap, subst, ◌∙◌, ◌<◌, length, arith}
use Rattle.std.specs.Prelude.{slice_get}
use Rattle.std.proofs.lemmas.Option.{slice_get_read}
use Rattle.wasm_sections.specs.declared.section.Section.{Section}
use Rattle.wasm_sections.specs.declared.id.SectionId.TheVariants as ids
use Rattle.wasm_sections.specs.Find.{IsFirstWith, LackId}
use Rattle.wasm_lists.specs.declared.entries.Entry.{Entry}
use Rattle.wasm_module.specs.Module.{Layout}
use Rattle.wasm_module.proofs.RoomLemmas.{no_code, place_is}
use Rattle.wasm_module.proofs.writing.code_place.Goals as goal

pub unreachable-requires : goal.unreachable-requires
unreachable-requires c =
    let same : c.deref.result.now ≡ c.args.layout.now.sections = cc (ap (λ (l : Layout). l.sections) c.layout.view_is) in
    no_code _ _ _ _ c.requires.module.2 c.requires.inside (subst (λ (l : List Section). LackId l ids.Code) same c.in-None.ensures.none)

pub returns : goal.returns
returns c bytes info m =
    let same : c.deref.result.now ≡ c.args.layout.now.sections = cc (ap (λ (l : Layout). l.sections) c.layout.view_is) in
    let entries : c.layout.inside.entries.items ≡ c.args.layout.now.entries = ap (λ (l : Layout). l.entries) c.layout.view_is in
    let lt : c.args.n < length c.layout.inside.entries.items = omega (arith, ap length entries, c.requires.inside) in
    let is : slice_get c.args.layout.now.entries c.args.n ≡ Some c.index.result.now =
    ap (λ (l : List Entry). slice_get l c.args.n) (sym entries)
    ∙ slice_get_read c.layout.inside.entries.items _ c.args.n c.index.result.now refl lt c.index.ensures in
    place_is bytes info c.args.layout.now c.args.n c.in-Some.code c.index.result.now
    (c.sections_fill_the_module.ensures.joined bytes c.args.layout.now.sections m.spells)
    (λ s id first. c.sections_fill_the_module.ensures.found bytes c.args.layout.now.sections id s m.spells first) m
    (subst (λ (l : List Section). IsFirstWith l ids.Code c.in-Some.code) same c.in-Some.ensures.found) is
