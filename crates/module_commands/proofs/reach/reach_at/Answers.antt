-- What one operator counts.
use Rattle.body_rewrites.specs.Reached.{OperatorIsMarked}
use Rattle.module_commands.proofs.ReachLemmas.{counted_at}
use Rattle.module_commands.proofs.reach.reach_at.Goals as goal

pub returns : goal.returns
returns c =
    counted_at (OperatorIsMarked c.args.marks.now) c.args.operators.now c.args.at c.is_marked-marked.result c.ends_block-ends.result c.args.held
    c.part_of.result c.part_of-2.result c.family_at.result c.family_at-2.result c.family_at-3.result c.family_at-4.result c.is_marked-marked.ensures
    c.ends_block-ends.ensures c.requires.held c.part_of.ensures c.part_of-2.ensures c.family_at.ensures c.family_at-2.ensures c.family_at-3.ensures
    c.family_at-4.ensures
