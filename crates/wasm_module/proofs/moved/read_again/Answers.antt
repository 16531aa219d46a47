use Rattle.std.proofs.Common.{◌≡◌, sym, ap, subst, ◌∙◌, rules}
use Rattle.std.proofs.lemmas.Option.{slice_get_within}
use Rattle.wasm_types.specs.Module.{Module as Info}
use Rattle.wasm_module.specs.declared.layout.Module.{Module as Whole}
use Rattle.wasm_module.specs.Module.{Layout}
use Rattle.wasm_module.specs.Reread.{IsMoving}
use Rattle.wasm_module.proofs.MovedLemmas.{err_of_match, read_along}
use Rattle.wasm_module.proofs.moved.read_again.Goals as goal

pub returns-in_err-sections-clause-memory : goal.returns-in_err-sections-clause-memory
returns-in_err-sections-clause-memory c =
    let w = c.requires in
    let r = c.rewritten_bytes_are_a_module.ensures w.bytes (record c.args.old.info { input = w.bytes }) c.args.old.layout c.args.n w.contents w.more
    c.args.bytes.now w.is w.rewritten w.imports w.globals w.some in
    let memory = c.in_err-sections.ensures.only r.again.sections r.is.spells in
    search rules

pub own_globals-requires : goal.own_globals-requires
own_globals-requires c =
    let w = c.requires in
    let r = c.rewritten_bytes_are_a_module.ensures w.bytes (record c.args.old.info { input = w.bytes }) c.args.old.layout c.args.n w.contents w.more
    c.args.bytes.now w.is w.rewritten w.imports w.globals w.some in
    let sections : c.in_ok-sections.sections.items ≡ r.again.sections = c.in_ok-sections.ensures.only r.again.sections r.is.spells in
    (_, r.again, r.is, sym (c.deref.ensures.value ∙ sections))

pub returns-then-own_globals-old-clause-memory : goal.returns-then-own_globals-old-clause-memory
returns-then-own_globals-old-clause-memory c =
    let w = c.requires in
    let r = c.rewritten_bytes_are_a_module.ensures w.bytes (record c.args.old.info { input = w.bytes }) c.args.old.layout c.args.n w.contents w.more
    c.args.bytes.now w.is w.rewritten w.imports w.globals w.some in
    err_of_match _ _ c.read_marked.result (c.read_marked.ensures.only _ r.again r.is (sym (ap (λ (z : Whole). z.info.exact) c.old.view_is)))

pub move_layout-requires : goal.move_layout-requires
move_layout-requires c =
    let w = c.requires in
    let r = c.rewritten_bytes_are_a_module.ensures w.bytes (record c.args.old.info { input = w.bytes }) c.args.old.layout c.args.n w.contents w.more
    c.args.bytes.now w.is w.rewritten w.imports w.globals w.some in
    let sections : c.in_ok-sections.sections.items ≡ r.again.sections = c.in_ok-sections.ensures.only r.again.sections r.is.spells in
    let m : IsMoving c.args.old.layout c.in_ok-sections.sections.items c.args.n c.args.bytes.now = record {
      bytes = w.bytes;
      info = record c.args.old.info { input = w.bytes };
      is = w.is;
      inside = slice_get_within c.args.old.layout.entries c.args.n w.rewritten.entry w.rewritten.entry_is;
      contents = w.contents;
      more = w.more;
      sized = w.rewritten.entry_sized;
      reread = r;
      sections_are = sections;
    } in
    subst (λ (l : Layout). IsMoving l c.in_ok-sections.sections.items c.args.n c.args.bytes.now) (sym (ap (λ (z : Whole). z.layout) c.old.view_is)) m

pub returns-clause-read : goal.returns-clause-read
returns-clause-read c =
    let w = c.requires in
    let r = c.rewritten_bytes_are_a_module.ensures w.bytes (record c.args.old.info { input = w.bytes }) c.args.old.layout c.args.n w.contents w.more
    c.args.bytes.now w.is w.rewritten w.imports w.globals w.some in
    let sections : c.in_ok-sections.sections.items ≡ r.again.sections = c.in_ok-sections.ensures.only r.again.sections r.is.spells in
    let m : IsMoving c.args.old.layout c.in_ok-sections.sections.items c.args.n c.args.bytes.now = record {
      bytes = w.bytes;
      info = record c.args.old.info { input = w.bytes };
      is = w.is;
      inside = slice_get_within c.args.old.layout.entries c.args.n w.rewritten.entry w.rewritten.entry_is;
      contents = w.contents;
      more = w.more;
      sized = w.rewritten.entry_sized;
      reread = r;
      sections_are = sections;
    } in
    let view = ap (λ (z : Whole). z.layout) c.old.view_is in
    let moved = subst (λ (l : Layout). (k : IsMoving l c.in_ok-sections.sections.items c.args.n c.args.bytes.now) →
    c.move_layout.result ≡ record k.reread.again { own_globals = l.own_globals }) view c.move_layout.ensures m in
    let own = c.own_globals.ensures _ r.again r.is (sym (c.deref.ensures.value ∙ sections)) in
    let same : r.again.own_globals ≡ c.args.old.layout.own_globals = sym own ∙ c.if-own_globals-old.false ∙ ap (λ (l : Layout). l.own_globals) view in
    read_along w.bytes c.args.bytes.now c.args.old.info c.args.old.layout c.args.n w.contents w.more r c.with_bytes.result c.move_layout.result same
    (c.with_bytes.ensures ∙ ap (λ (z : Whole). record z.info { input = c.args.bytes.now }) c.old.view_is) moved

pub returns-clause-marked : goal.returns-clause-marked
returns-clause-marked c =
    ap (λ (i : Info). i.exact) (c.with_bytes.ensures ∙ ap (λ (z : Whole). record z.info { input = c.args.bytes.now }) c.old.view_is)
