use Rattle.std.proofs.Common.{rules}
use Rattle.body_rewrites_promises.proofs.own_code.Goals as goal

pub returns-clause-some : goal.returns-clause-some
returns-clause-some c = search rules
