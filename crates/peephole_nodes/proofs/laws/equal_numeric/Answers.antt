use Rattle.peephole_nodes.proofs.EqualLemmas.{numeric_equal}
use Rattle.peephole_nodes.proofs.laws.equal_numeric.Goals as goal

pub returns : goal.returns
returns c = numeric_equal
