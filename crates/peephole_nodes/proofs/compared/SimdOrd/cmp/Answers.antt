use Rattle.std.proofs.Common.{rules}
use Rattle.peephole_nodes.proofs.compared.SimdOrd.cmp.Goals as goal

pub returns : goal.returns
returns c = search rules
