-- By the number.
use Rattle.body_rewrites.proofs.WrapFindLemmas.{nonzero_item}
use Rattle.body_rewrites.proofs.own.unwrap.is_constant.Goals as goal

pub returns-in-NonZero : goal.returns-in-NonZero
returns-in-NonZero c = nonzero_item c.args.item c.args.operator.now c.in-Some.number c.args.t c.in-NonZero.is (c.in-Some.ensures.some)
