-- Nothing is left of the side.
use Rattle.std.proofs.Common.{◌+◌, ap, ◌∙◌}
use Rattle.std.proofs.lemmas.List.{drop_all}
use Rattle.rewrite_rules.specs.Table.{parts_for}
use Rattle.body_rewrites.specs.Writing.{parts_count}
use Rattle.body_rewrites.proofs.GrowingLemmas.{rest_is}
use Rattle.body_rewrites.proofs.line_growth.side_growth.Goals as goal

pub returns : goal.returns
returns c =
    c.rest_growth-2.ensures
    ∙ rest_is c.args.old c.loop-i.left _
    (c.loop-i.invariant
    ∙ ap (λ steps. c.args.old + parts_count c.args.operators.now c.args.place.now.operands (parts_for c.args.width steps))
    (drop_all c.loop-i.i c.args.side.now c.loop-i-test.false))
