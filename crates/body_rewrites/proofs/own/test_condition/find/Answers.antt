-- By the condition.
use Rattle.body_rewrites.proofs.FlowFindLemmas.{no_condition}
use Rattle.body_rewrites.proofs.own.test_condition.find.Goals as goal

pub returns-in_default : goal.returns-in_default
returns-in_default c = λ context trees.
    no_condition context c.args.operators.now c.args.at (λ start h. c.in_default.ensures.none context trees start (record { tree = h.tree; asks = h.behind }))

pub returns : goal.returns
returns c = λ context trees. let a = c.in-Some.ensures.some context trees in record { tree = a.tree; behind = a.asks }
