use Rattle.std.proofs.Common.{rules}
use Rattle.peephole_graphs.proofs.growing.start_graph.Goals as goal

pub returns-clause-stack : goal.returns-clause-stack
returns-clause-stack c = search rules
