use Rattle.peephole_lang.proofs.NodeLemmas.{equal_nodes}
use Rattle.peephole_lang.proofs.laws.equal_nodes_are_equal.Goals as goal

pub returns : goal.returns
returns c = equal_nodes
