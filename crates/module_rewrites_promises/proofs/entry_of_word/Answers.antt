use Rattle.std.proofs.Common.{rules}
use Rattle.module_rewrites_promises.proofs.entry_of_word.Goals as goal

pub returns-clause-named : goal.returns-clause-named
returns-clause-named c = search rules
