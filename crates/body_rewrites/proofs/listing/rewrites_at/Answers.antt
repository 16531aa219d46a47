-- Line by line.
use Rattle.std.proofs.Common.{List, [], ◌∷◌, take, sym, subst, ◌∙◌}
use Rattle.std.proofs.lemmas.List.{take_all}
use Rattle.rewrite_rules.specs.Table.{ROWS}
use Rattle.body_rewrites.specs.declared.asked.Asked.{Asked}
use Rattle.body_rewrites.specs.Asking.{all_asked, is_ready, rewrite_of, rewrites_of, AreAsked, IsAskedSo}
use Rattle.body_rewrites.specs.Listing.{AreFound, AddsFound}
use Rattle.body_rewrites.specs.Places.{context_of}
use Rattle.body_rewrites.proofs.CountingBounds.{filter_asked}
use Rattle.body_rewrites.proofs.ExactnessLemmas.{found_ready}
use Rattle.body_rewrites.proofs.AskingLemmas.{is_asked, asked_at, added_next, rewrites_are, all_added}
use Rattle.body_rewrites.proofs.listing.rewrites_at.Goals as goal

pub ask-requires-clause-asked : goal.ask-requires-clause-asked
ask-requires-clause-asked c =
    let asked = c.asked-item.result in
    subst IsAskedSo (sym c.asked-item.is)
    (asked_at c.args.lines.now (subst AreAsked (sym c.requires.lines)
    (filter_asked (is_ready (context_of c.args.body.now).info.exact) all_asked is_asked)) c.loop-asked.asked-index asked c.loop-asked-test.true)

pub loop-asked-preserved : goal.loop-asked-preserved
loop-asked-preserved c =
    added_next (context_of c.args.body.now) c.args.body.now.operators.now c.args.at c.here_at-here.result.at c.here_at-here.ensures.at c.args.lines.now
    c.loop-asked.asked-index c.asked-item.result c.loop-asked-test.true c.loop-asked.list.items c.ask.new.list.items c.loop-asked.invariant
    (subst
    (λ (a : Asked). AddsFound (context_of c.args.body.now) c.args.body.now.operators.now (rewrite_of c.here_at-here.result.at a ∷ [])
    c.loop-asked.list.items c.ask.new.list.items)
    c.asked-item.is c.in_ok-ask.ensures)

pub returns : goal.returns
returns c =
    let context = context_of c.args.body.now in
    let operators = c.args.body.now.operators.now in
    subst (λ items. AreFound context operators items c.loop-asked.list.items)
    (rewrites_are c.args.at 0 ROWS)
    (found_ready c.table_is_right.ensures c.exact_rows_are_told.ensures context operators c.args.at all_asked is_asked c.loop-asked.list.items
    (subst (λ (list : List Asked). AreFound context operators (rewrites_of c.args.at list) c.loop-asked.list.items)
    (take_all c.loop-asked.asked-index c.args.lines.now c.loop-asked-test.false ∙ c.requires.lines)
    (all_added context operators (rewrites_of c.args.at (take c.loop-asked.asked-index c.args.lines.now)) c.loop-asked.list.items c.loop-asked.invariant)))
