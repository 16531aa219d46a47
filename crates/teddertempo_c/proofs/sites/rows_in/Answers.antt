-- Those of one function more.
use Rattle.std.proofs.Common.{◌≡◌, ◌↔◌, ◌++◌, ◌-◌, ◌<◌, ◌≤◌, ◌+◌, ℕ, List, Option, length, ap, subst, sym, ◌∙◌, arith}
use Rattle.body_changes.specs.declared.change.Change.{Change}
use Rattle.module_rewrites.specs.Mutated.{IsChosen}
use Rattle.module_changes.specs.Sites.{AreSitesOf}
use Rattle.module_changes.specs.declared.sites.Site.{Site}
use Rattle.teddertempo_c.specs.ChangeOptions.{changes_of}
use Rattle.teddertempo_c.specs.Sites.{site_rows_of, AreRows}
use Rattle.teddertempo_c.proofs.SitesLemmas.{next_rows}
use Rattle.teddertempo_c.proofs.sites.rows_in.Goals as goal

pub loop-n-init : goal.loop-n-init
loop-n-init c =
    let from = c.in-Ok-chosen_entries.chosen.start in
    let none : 0 ≡ from - from = omega arith in
    subst (λ (k : ℕ). AreRows (changes_of c.args.options.now) c.args.bytes.now c.in-Ok.module.info c.in-Ok.module.layout from k c.new-rows.result.items) none
    c.new-rows.ensures.items

pub loop-n-preserved : goal.loop-n-preserved
loop-n-preserved c =
    let info = c.in-Ok.module.info in
    let layout = c.in-Ok.module.layout in
    let sites = c.in_ok-sites.sites.items in
    next_rows (changes_of c.args.options.now) c.args.bytes.now info layout c.in-Ok-chosen_entries.chosen.start c.loop-n.n c.index_of.result
    c.loop-n.rows.items c.add_rows.new.rows.items sites c.loop-n.auto.n c.loop-n.invariant
    (subst (λ (cs : List Change). AreSitesOf cs c.args.bytes.now info layout c.loop-n.n sites) (c.deref.ensures.value ∙ c.in_ok-changes.ensures)
    c.in_ok-sites.ensures)
    c.index_of.ensures
    (c.in_ok-add_rows.ensures.added
    ∙ ap (λ (ss : List Site). c.loop-n.rows.items ++ site_rows_of c.index_of.result ss) c.deref-in-loop-n.ensures.value)

pub returns-clause-listed : goal.returns-clause-listed
returns-clause-listed c =
    let info = c.in-Ok.module.info in
    let layout = c.in-Ok.module.layout in
    let from = c.in-Ok-chosen_entries.chosen.start in
    let to = c.in-Ok-chosen_entries.chosen.end in
    let ordered : from ≤ to = c.in-Ok-chosen_entries.ensures.inside.0 in
    let end : c.loop-n.n ≡ to = omega (arith, c.loop-n-test.false, c.loop-n.auto.n-end ordered) in
    let whole : to ≡ from + (to - from) = omega (arith, ordered) in
    record {
      info = info;
      layout = layout;
      is = c.in-Ok.ensures.read;
      from = from;
      count = to - from;
      chosen = λ n. rw (sym whole)
          (subst (λ (only : Option ℕ). ((from ≤ n) × (n < to)) ↔ ((n < length layout.entries) × IsChosen only (layout.imported_functions + n)))
          c.function_of.ensures (c.in-Ok-chosen_entries.ensures.chosen n));
      rows_are = subst (λ (k : ℕ). AreRows (changes_of c.args.options.now) c.args.bytes.now info layout from (k - from) c.loop-n.rows.items) end
          c.loop-n.invariant;
    }
