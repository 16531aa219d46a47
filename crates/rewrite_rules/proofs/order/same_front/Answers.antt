-- The right side has no more.
use Rattle.std.proofs.Common.{◌∙◌, drop, arith}
use Rattle.std.proofs.lemmas.List.{drop_all}
use Rattle.rewrite_rules.proofs.MovingLemmas.{none_right}
use Rattle.rewrite_rules.proofs.order.same_front.Goals as goal

pub returns-else-count-right-clause-front : goal.returns-else-count-right-clause-front
returns-else-count-right-clause-front c = λ may.
    c.loop-count.invariant.2 may
    ∙ none_right may (drop c.loop-count.count c.args.left.now) (drop c.loop-count.count c.args.right.now)
    (drop_all c.loop-count.count c.args.right.now (omega (arith, c.if-count-right.false)))
