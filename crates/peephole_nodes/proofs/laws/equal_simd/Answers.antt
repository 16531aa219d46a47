use Rattle.peephole_nodes.proofs.EqualLemmas.{simd_equal}
use Rattle.peephole_nodes.proofs.laws.equal_simd.Goals as goal

pub returns : goal.returns
returns c = simd_equal
