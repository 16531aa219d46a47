-- Operator by operator.
use Rattle.std.proofs.Common.{◌≡◌, List, [], length, sym, subst, refl, arith}
use Rattle.body_rewrites.specs.declared.rewrite.Rewrite.{Rewrite}
use Rattle.body_rewrites.specs.Asking.{rewrites_of}
use Rattle.body_rewrites.specs.Listing.{AreThose, HasGrowth}
use Rattle.body_rewrites.specs.Places.{context_of}
use Rattle.body_rewrites.proofs.CountingBounds.{passed_to, passed_over, passed_all}
use Rattle.body_rewrites.proofs.counts.find_rewrite.Goals as goal

pub loop-at-init : goal.loop-at-init
loop-at-init c = ([], refl, omega arith)

pub returns-in-Ok-clause-some : goal.returns-in-Ok-clause-some
returns-in-Ok-clause-some c = λ those all.
    let P = HasGrowth (context_of c.args.body.now) c.args.body.now.operators.now c.args.growth in
    let lines = c.args.lines.now in
    passed_to lines P c.loop-at.at c.loop-at.left c.args.number c.loop-at.invariant (length c.args.body.now.operators.now) c.loop-at-test.true
    c.as_slice.result.now
    (subst (λ (list : List Rewrite). AreThose P (rewrites_of c.loop-at.at lines) list) (sym c.as_slice.ensures.value)
    (subst (λ at. AreThose P (rewrites_of at lines) c.in_ok-found.found.items) c.here_at.ensures.at c.in_ok-found.ensures))
    c.in-Ok.rewrite c.in-Ok.ensures those all

pub loop-at-preserved : goal.loop-at-preserved
loop-at-preserved c =
    let P = HasGrowth (context_of c.args.body.now) c.args.body.now.operators.now c.args.growth in
    let lines = c.args.lines.now in
    passed_over lines P c.loop-at.at c.loop-at.left c.args.number c.loop-at.invariant c.as_slice.result.now
    (subst (λ (list : List Rewrite). AreThose P (rewrites_of c.loop-at.at lines) list) (sym c.as_slice.ensures.value)
    (subst (λ at. AreThose P (rewrites_of at lines) c.in_ok-found.found.items) c.here_at.ensures.at c.in_ok-found.ensures))
    c.in-Err.behind c.in-Err.ensures

pub returns-clause-none : goal.returns-clause-none
returns-clause-none c = λ those all.
    let end : c.loop-at.at ≡ length c.args.body.now.operators.now = omega (arith, c.loop-at-test.false, c.loop-at.auto.at-end) in
    passed_all c.args.lines.now (HasGrowth (context_of c.args.body.now) c.args.body.now.operators.now c.args.growth) c.loop-at.at c.loop-at.left c.args.number
    c.loop-at.invariant (length c.args.body.now.operators.now) end those all
