-- One after another.
use Rattle.std.proofs.Common.{sym, ◌∙◌}
use Rattle.rewrite_rules.specs.declared.wrap.WrapItem.TheVariants.{Block}
use Rattle.body_rewrites.proofs.WrapFindLemmas.{at_first, first_and_rest, first_then_rest, none_left}
use Rattle.body_rewrites.proofs.own.unwrap.have_items.Goals as goal

pub loop-i-init : goal.loop-i-init
loop-i-init c = at_first c.args.operators.now c.args.start c.args.items.now c.args.t

pub returns-then-not-has_item-clause-only : goal.returns-then-not-has_item-clause-only
returns-then-not-has_item-clause-only c = λ h.
    sym c.if-not-has_item.true
    ∙ c.has_item.ensures.only
    (first_and_rest c.args.operators.now c.args.start c.args.items.now c.args.t c.loop-i.i Block c.loop-i-test.true (c.loop-i.invariant.1 h)).0

pub loop-i-preserved : goal.loop-i-preserved
loop-i-preserved c = (
  λ h. c.loop-i.invariant.0
      (first_then_rest c.args.operators.now c.args.start c.args.items.now c.args.t c.loop-i.i Block c.loop-i-test.true
      (c.has_item.ensures.same c.if-not-has_item.false) h),
  λ h. (first_and_rest c.args.operators.now c.args.start c.args.items.now c.args.t c.loop-i.i Block c.loop-i-test.true (c.loop-i.invariant.1 h)).1,
)

pub returns-clause-same : goal.returns-clause-same
returns-clause-same c = λ _. c.loop-i.invariant.0 (none_left c.args.operators.now c.args.start c.args.items.now c.args.t c.loop-i.i c.loop-i-test.false)
