-- By whether one stands there, and by its mark.
use Rattle.body_rewrites.specs.Reached.{OperatorIsMarked}
use Rattle.module_commands.proofs.ReachLemmas.{family_at}
use Rattle.module_commands.proofs.reach.family_at.Goals as goal

pub returns : goal.returns
returns c =
    family_at (OperatorIsMarked c.args.marks.now) c.args.operators.now c.args.family c.args.at c.is_of_family-there.result c.is_marked-marked.result
    c.part_of.result c.is_of_family-there.ensures c.is_marked-marked.ensures c.part_of.ensures
