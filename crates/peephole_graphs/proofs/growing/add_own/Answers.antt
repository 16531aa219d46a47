-- The entry stands behind the others.
use Rattle.std.proofs.Common.{rules}
use Rattle.peephole_graphs.proofs.growing.add_own.Goals as goal

pub returns-clause-entries : goal.returns-clause-entries
returns-clause-entries c = search rules
