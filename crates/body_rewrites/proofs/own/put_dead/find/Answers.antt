-- By the operator.
use Rattle.std.proofs.Common.{refl}
use Rattle.body_rewrites.proofs.own.put_dead.find.Goals as goal

pub returns : goal.returns
returns c = λ context. (refl, c.has_plain_leave.ensures.same c.if-not-has_plain_leave.false)
