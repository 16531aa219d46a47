use Rattle.std.proofs.Common.{rules}
use Rattle.peephole_commands.proofs.runner.run.Goals as goal

pub returns-clause-answer : goal.returns-clause-answer
returns-clause-answer g c = search rules

pub returns-clause-end : goal.returns-clause-end
returns-clause-end g c = search rules

pub returns-clause-short : goal.returns-clause-short
returns-clause-short g c = search rules
