-- Line by line.
use Rattle.std.proofs.Common.{Vec, ◌+◌, ◌++◌, ◌∷◌, [], take, sym, subst, ap, ◌∙◌}
use Rattle.std.specs.Global.{Global}
use Rattle.std.proofs.lemmas.Bool.{false≢true}
use Rattle.body_rewrites.specs.declared.rewrite.Rewrite.{Rewrite}
use Rattle.body_rewrites.specs.declared.asked.Asked.{Asked}
use Rattle.body_rewrites.specs.Asking.{rewrite_of, rewrites_of, IsAskedSo}
use Rattle.body_rewrites.specs.Listing.{AreThose, HasGrowth}
use Rattle.body_rewrites.specs.Places.{context_of}
use Rattle.body_rewrites.proofs.AskingLemmas.{asked_at, those_next, those_skip}
use Rattle.body_rewrites.proofs.counts.rewrites_here.Goals.{then-makes+in_ok-push, else-makes}
use Rattle.body_rewrites.proofs.counts.rewrites_here.Goals as goal

pub makes-requires-clause-asked : goal.makes-requires-clause-asked
makes-requires-clause-asked c =
    let asked = c.asked-item.result in
    subst IsAskedSo (sym c.asked-item.is) (asked_at c.args.lines.now c.requires.lines c.loop-asked.asked-index asked c.loop-asked-test.true)

pub loop-asked-preserved : goal.loop-asked-preserved
loop-asked-preserved c =
    let P = HasGrowth (context_of c.args.body.now) c.args.body.now.operators.now c.args.growth in
    let lines = c.args.lines.now in
    let at = c.args.here.at in
    let i = c.loop-asked.asked-index in
    let list = c.loop-asked.list.items in
    let asked = c.asked-item.result in
    elim c.if-makes.branch [
      | then-makes+in_ok-push w ↦
          subst (λ (v : Vec Rewrite Global). AreThose P (rewrites_of at (take (i + 1) lines)) v.items) (sym w.list-is)
          (those_next P at lines i asked c.loop-asked-test.true list c.loop-asked.invariant w.push.new.self.items
          (subst (λ (a : Asked). P (rewrite_of at a)) c.asked-item.is (c.makes.ensures.same w.if-makes.true))
          (w.in_ok-push.ensures.items ∙ ap (λ r. list ++ r ∷ []) (w.rewrite_at.ensures ∙ ap (rewrite_of at) c.asked-item.is)))
      | else-makes w ↦
          subst (λ (v : Vec Rewrite Global). AreThose P (rewrites_of at (take (i + 1) lines)) v.items) (sym w.list-is)
          (those_skip P at lines i asked c.loop-asked-test.true list c.loop-asked.invariant
          (λ p. false≢true (sym w.if-makes.false ∙ c.makes.ensures.only (subst (λ (a : Asked). P (rewrite_of at a)) (sym c.asked-item.is) p))))
    ]
