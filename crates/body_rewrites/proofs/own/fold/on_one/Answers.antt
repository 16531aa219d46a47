-- What stands right before the operator is one constant.
use Rattle.body_rewrites.proofs.OwnFoldLemmas.{folded_one, one_missing, one_valueless}
use Rattle.body_rewrites.proofs.own.fold.on_one.Goals as goal

pub returns-in_default : goal.returns-in_default
returns-in_default c = one_missing c.args.operators.now c.args.at c.args.operation c.requires c.in_default.ensures.none

pub returns-in_default-value_on_one : goal.returns-in_default-value_on_one
returns-in_default-value_on_one c =
    one_valueless c.args.operators.now c.args.at c.args.operation c.requires c.in-Some.one c.in-Some.ensures.some c.in_default-value_on_one.ensures.none

pub returns : goal.returns
returns c = λ context.
    folded_one c.args.operators.now c.args.at c.args.operation c.requires c.in-Some.one c.result.result c.in-Some-value_on_one.value c.result.ensures
    c.if-at-lt1.false c.in-Some.ensures.some c.in-Some-value_on_one.ensures.some
