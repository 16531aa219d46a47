-- One after another.
use Rattle.std.proofs.Common.{rules, Vec, take, refl, ap, sym, subst, ◌∙◌, ◌+◌}
use Rattle.std.specs.Global.{Global}
use Rattle.std.proofs.lemmas.Bool.{false≢true}
use Rattle.body_rewrites.specs.declared.growth.Growth.{Growth}
use Rattle.body_rewrites.specs.Listing.{AreThose}
use Rattle.body_rewrites.specs.Counting.{HasOpenBy}
use Rattle.body_rewrites.specs.ThoseLemmas.{next_with, next_without, those_of_all}
use Rattle.body_rewrites.proofs.choice.open_growths.Goals.{then-has_open+in_ok-push, else-has_open}
use Rattle.body_rewrites.proofs.choice.open_growths.Goals as goal

pub loop-growth-init : goal.loop-growth-init
loop-growth-init c = search rules

pub loop-growth-preserved : goal.loop-growth-preserved
loop-growth-preserved c =
    let P = HasOpenBy c.args.counts.now c.args.rules.now in
    elim c.if-has_open.branch [
      | then-has_open+in_ok-push w ↦
          subst (AreThose P (take (c.loop-growth.growth-index + 1) c.args.wanted.now))
          (sym (ap (λ (v : Vec Growth Global). v.items) w.list-is ∙ w.in_ok-push.ensures.items))
          (next_with P c.args.wanted.now c.loop-growth.growth-index _ _ c.loop-growth-test.true refl
          c.loop-growth.list.items (c.has_open.ensures.0 w.if-has_open.true) c.loop-growth.invariant)
      | else-has_open w ↦
          subst (λ (v : Vec Growth Global). AreThose P (take (c.loop-growth.growth-index + 1) c.args.wanted.now) v.items) (sym w.list-is)
          (next_without P c.args.wanted.now c.loop-growth.growth-index _ _ c.loop-growth-test.true refl
          c.loop-growth.list.items (λ p. false≢true (sym w.if-has_open.false ∙ c.has_open.ensures.1 p)) c.loop-growth.invariant)
    ]

pub returns : goal.returns
returns c =
    those_of_all (HasOpenBy c.args.counts.now c.args.rules.now) c.args.wanted.now c.loop-growth.growth-index c.loop-growth-test.false
    c.loop-growth.list.items c.loop-growth.invariant
