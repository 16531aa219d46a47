use Rattle.std.proofs.Common.{rules}
use Rattle.peephole_nodes.proofs.compared.NumericPartialEq.eq.Goals as goal

pub returns-then-place : goal.returns-then-place
returns-then-place c = search rules
