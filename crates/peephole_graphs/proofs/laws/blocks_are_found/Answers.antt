use Rattle.peephole_graphs.proofs.BlockLemmas.{finds_the_block, finds_no_block}
use Rattle.peephole_graphs.proofs.laws.blocks_are_found.Goals as goal

pub returns-clause-block : goal.returns-clause-block
returns-clause-block c = finds_the_block

pub returns-clause-none : goal.returns-clause-none
returns-clause-none c = finds_no_block
