-- A hole's code begins where the tree does.
use Rattle.std.proofs.Common.{◌-◌, arith}
use Rattle.body_rewrites.proofs.CutLemmas.{hole_some, hole_none}
use Rattle.body_rewrites.proofs.cutting.part_start.Goals as goal

pub returns-in-Hole-clause-some : goal.returns-in-Hole-clause-some
returns-in-Hole-clause-some c =
    hole_some c.args.operators.now c.args.trees.now c.args.part c.in-Hole.field-0 c.args.end (c.args.end - 1) c.tree_start.result c.in-Hole.is
    (omega (arith, c.if-end-eq0.false)) c.tree_start.ensures

pub returns-in-Hole-clause-none : goal.returns-in-Hole-clause-none
returns-in-Hole-clause-none c =
    hole_none c.args.operators.now c.args.trees.now c.args.part c.in-Hole.field-0 c.args.end (c.args.end - 1) c.tree_start.result c.in-Hole.is
    (omega (arith, c.if-end-eq0.false)) c.tree_start.ensures
