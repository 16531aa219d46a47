-- From the ends of both sides.
use Rattle.std.proofs.Common.{◌≡◌, ◌-◌, ◌+◌, length, take, true, false, sym, ap, ap₂, ◌∙◌, arith}
use Rattle.rewrite_rules.specs.Order.{back, before_end}
use Rattle.rewrite_rules.proofs.MovingLemmas.{one_back, ends_right}
use Rattle.rewrite_rules.proofs.order.same_back.Goals as goal

pub returns-then-not-is_fixed-clause-back : goal.returns-then-not-is_fixed-clause-back
returns-then-not-is_fixed-clause-back c = λ may.
    c.loop-count.invariant.2 may
    ∙ one_back may c.args.left.now c.args.right.now c.loop-count.count _ false c.loop-count-test.true c.if-count-right.true
    (sym c.is_fixed.ensures ∙ c.if-not-is_fixed.true)

pub loop-count-preserved : goal.loop-count-preserved
loop-count-preserved c =
    let l = c.loop-count-test.true in
    let m = c.if-count-right.true in
    let left = c.args.left.now in
    let right = c.args.right.now in
    let count = c.loop-count.count in (
      omega (arith, l),
      omega (arith, m),
      λ may.
          c.loop-count.invariant.2 may
          ∙ (one_back may left right count _ true l m (sym c.is_fixed.ensures ∙ c.if-not-is_fixed.false)
          ∙ ap₂ (λ a b. before_end may (back (take a left)) (back (take b right)))
          (let e : length left - count - 1 ≡ length left - (count + 1) = omega arith in e)
          (let e : length right - count - 1 ≡ length right - (count + 1) = omega arith in e)),
    )

pub returns-else-count-right-clause-back : goal.returns-else-count-right-clause-back
returns-else-count-right-clause-back c = λ may.
    let count = c.loop-count.count in
    let right = c.args.right.now in
    let few = c.loop-count.invariant.1 in
    let none : length right - count ≡ 0 = omega (arith, few, c.if-count-right.false) in
    c.loop-count.invariant.2 may
    ∙ ends_right may (take (length c.args.left.now - count) c.args.left.now) (take (length right - count) right) (ap (λ k. take k right) none)
