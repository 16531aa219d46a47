-- Rule by rule.
use Rattle.std.proofs.Common.{refl, sym, ◌∙◌}
use Rattle.std.proofs.lemmas.Bool.{false≢true}
use Rattle.body_rewrites.specs.Counting.{IsOpenBy}
use Rattle.body_rewrites.specs.ThoseLemmas.{none_start, none_next, none_of_all}
use Rattle.body_rewrites.proofs.choice.has_open.Goals as goal

pub returns-then-is_open : goal.returns-then-is_open
returns-then-is_open c = (
  λ t. (c.rule-item.result, (c.loop-rule.rule-index, c.loop-rule-test.true, sym c.rule-item.is), c.is_open.ensures.0 c.if-is_open.true),
  λ h. refl,
)

pub loop-rule-init : goal.loop-rule-init
loop-rule-init c = none_start (IsOpenBy c.args.counts.now c.args.growth) c.args.rules.now

pub loop-rule-preserved : goal.loop-rule-preserved
loop-rule-preserved c =
    none_next (IsOpenBy c.args.counts.now c.args.growth) c.args.rules.now c.loop-rule.rule-index c.rule-item.result c.rule-item.result
    c.loop-rule-test.true c.rule-item.is
    (λ p. false≢true (sym c.if-is_open.false ∙ c.is_open.ensures.1 p)) c.loop-rule.invariant

pub returns : goal.returns
returns c = (
  λ t. absurd (false≢true t),
  λ h. absurd (none_of_all (IsOpenBy c.args.counts.now c.args.growth) c.args.rules.now c.loop-rule.rule-index c.loop-rule-test.false
      c.loop-rule.invariant h.0 h.1 h.2),
)
