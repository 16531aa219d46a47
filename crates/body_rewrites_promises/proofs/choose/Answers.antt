use Rattle.std.proofs.Common.{rules}
use Rattle.body_rewrites_promises.proofs.choose.Goals as goal

pub returns-clause-chosen : goal.returns-clause-chosen
returns-clause-chosen g c = search rules
