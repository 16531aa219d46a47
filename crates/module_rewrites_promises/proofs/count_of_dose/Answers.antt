use Rattle.std.proofs.Common.{rules}
use Rattle.module_rewrites_promises.proofs.count_of_dose.Goals as goal

pub returns-clause-count : goal.returns-clause-count
returns-clause-count c = search rules
