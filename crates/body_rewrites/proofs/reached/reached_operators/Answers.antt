-- Operator by operator.
use Rattle.std.proofs.Common.{◌∷◌, [], ◌++◌, sym, subst, ap, ◌∙◌}
use Rattle.body_rewrites.specs.Places.{context_of}
use Rattle.body_rewrites.specs.Listing.{AreRules}
use Rattle.body_rewrites.specs.Reached.{has_wanted}
use Rattle.body_rewrites.proofs.ReachedLemmas.{none_reached, reached_more}
use Rattle.body_rewrites.proofs.reached.reached_operators.Goals as goal

pub loop-at-init : goal.loop-at-init
loop-at-init c =
    none_reached (context_of c.args.body.now) c.args.body.now.operators.now c.in_ok-rows.rows.items c.in_ok-rows.ensures c.args.rules.now
    c.args.wanted.now c.one_change.ensures
    c.new-marks.result.items c.new-marks.ensures.items

pub loop-at-preserved : goal.loop-at-preserved
loop-at-preserved c =
    let rows = c.as_slice-in-loop-at.result.now in
    reached_more (context_of c.args.body.now) c.args.body.now.operators.now rows (subst AreRules (sym c.as_slice-in-loop-at.ensures.value) c.in_ok-rows.ensures)
    c.args.rules.now c.args.wanted.now c.one_change.ensures c.loop-at.at c.loop-at-test.true c.in_ok-found.found.items c.in_ok-found.ensures
    c.loop-at.marks.items c.push.new.self.items
    (c.in_ok-push.ensures.items
    ∙ ap (λ b. c.loop-at.marks.items ++ b ∷ []) (c.has_wanted.ensures
    ∙ ap (has_wanted rows c.args.rules.now c.args.wanted.now) c.as_slice-in-loop-at-2.ensures.value)) c.loop-at.invariant
