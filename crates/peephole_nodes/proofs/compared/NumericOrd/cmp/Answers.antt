use Rattle.std.proofs.Common.{rules}
use Rattle.peephole_nodes.proofs.compared.NumericOrd.cmp.Goals as goal

pub returns : goal.returns
returns c = search rules
