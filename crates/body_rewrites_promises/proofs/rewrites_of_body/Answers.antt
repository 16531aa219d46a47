use Rattle.std.proofs.Common.{rules}
use Rattle.body_rewrites_promises.proofs.rewrites_of_body.Goals as goal

pub returns : goal.returns
returns c = search rules
