use Rattle.std.proofs.Common.{rules}
use Rattle.peephole_nodes.proofs.compared.SimdPartialEq.eq.Goals as goal

pub returns-then-eq : goal.returns-then-eq
returns-then-eq c = search rules
