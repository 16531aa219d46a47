use Rattle.std.proofs.Common.{rules}
use Rattle.body_rewrites_promises.proofs.place_of.Goals as goal

pub returns-clause-none : goal.returns-clause-none
returns-clause-none c = search rules
