-- Operator by operator.
use Rattle.std.proofs.Common.{◌+◌, ◌++◌, sym, subst, ap, ◌∙◌}
use Rattle.body_rewrites.specs.Places.{context_of}
use Rattle.body_rewrites.specs.Rewrites.{asked_below}
use Rattle.body_rewrites.specs.Listing.{AreThose, AreRules, IsWantedBy, passing, is_wanted}
use Rattle.body_rewrites.proofs.ListingLemmas.{by_more}
use Rattle.body_rewrites.proofs.listing.rewrites_of_body.Goals as goal

pub loop-at-preserved : goal.loop-at-preserved
loop-at-preserved c =
    let context = context_of c.args.body.now in
    let operators = c.args.body.now.operators.now in
    let rows = c.as_slice-in-loop-at.result.now in
    subst (AreThose (IsWantedBy context operators c.args.rules.now c.args.wanted.now) (asked_below (c.loop-at.at + 1)))
    (sym (c.in_ok-add_wanted.ensures
    ∙ ap (λ found. c.loop-at.list.items ++ passing (is_wanted rows c.args.rules.now c.args.wanted.now) found) c.as_slice-in-loop-at-2.ensures.value))
    (by_more context operators rows (subst AreRules (sym c.as_slice-in-loop-at.ensures.value) c.in_ok-rows.ensures) c.args.rules.now c.args.wanted.now
    c.one_change.ensures c.loop-at.at
    c.loop-at.list.items c.in_ok-found.found.items c.loop-at.invariant c.in_ok-found.ensures)
