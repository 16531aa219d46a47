-- By the operator.
use Rattle.body_rewrites.proofs.WrapFindLemmas.{item_there, no_item}
use Rattle.body_rewrites.proofs.own.unwrap.has_item.Goals as goal

pub returns-in-Some-clause-same : goal.returns-in-Some-clause-same
returns-in-Some-clause-same c = λ e. record { operator = c.in-Some.operator; has = c.in-Some.ensures.some; is = c.is_item.ensures.0 e }

pub returns-in-Some-clause-only : goal.returns-in-Some-clause-only
returns-in-Some-clause-only c = λ h.
    c.is_item.ensures.1 (item_there c.args.operators.now c.args.at c.in-Some.operator c.args.item c.args.t c.in-Some.ensures.some h)

pub returns-in-None-clause-only : goal.returns-in-None-clause-only
returns-in-None-clause-only c = λ h. absurd (no_item c.args.operators.now c.args.at c.args.item c.args.t c.in-None.ensures.none h)
