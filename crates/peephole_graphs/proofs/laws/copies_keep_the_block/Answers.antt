use Rattle.peephole_graphs.proofs.graph.GraphCopies.{copy_has_the_block}
use Rattle.peephole_graphs.proofs.laws.copies_keep_the_block.Goals as goal

pub returns : goal.returns
returns c = copy_has_the_block
