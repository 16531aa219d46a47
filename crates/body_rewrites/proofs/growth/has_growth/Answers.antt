-- One after another.
use Rattle.std.proofs.Common.{◌≡◌, refl, sym, ◌∙◌}
use Rattle.std.proofs.lemmas.Bool.{false≢true}
use Rattle.body_rewrites.specs.declared.growth.Growth.{Growth}
use Rattle.body_rewrites.specs.Growth.{has_growth}
use Rattle.body_rewrites.specs.ThoseLemmas.{none_next, none_of_all, none_start}
use Rattle.body_rewrites.proofs.ListingLemmas.{growth_had, item_contained, no_growth}
use Rattle.body_rewrites.proofs.growth.has_growth.Goals as goal

pub returns-then-same_growth : goal.returns-then-same_growth
returns-then-same_growth c =
    sym (growth_had c.args.wanted.now c.args.growth _ (item_contained c.args.wanted.now c.loop-one.one-index _ c.loop-one-test.true)
    (c.same_growth.ensures.0 c.if-same_growth.true))

pub loop-one-init : goal.loop-one-init
loop-one-init c = none_start (λ (other : Growth). other ≡ c.args.growth) c.args.wanted.now

pub loop-one-preserved : goal.loop-one-preserved
loop-one-preserved c =
    none_next (λ (other : Growth). other ≡ c.args.growth) c.args.wanted.now c.loop-one.one-index _ _
    c.loop-one-test.true refl (λ e. false≢true (sym c.if-same_growth.false ∙ c.same_growth.ensures.1 e)) c.loop-one.invariant

pub returns : goal.returns
returns c =
    no_growth c.args.wanted.now c.args.growth (has_growth c.args.wanted.now c.args.growth) refl
    (none_of_all (λ (other : Growth). other ≡ c.args.growth) c.args.wanted.now c.loop-one.one-index c.loop-one-test.false c.loop-one.invariant)
