-- What stands right before the operator are two constants.
use Rattle.body_rewrites.proofs.OwnFoldLemmas.{folded_two, first_missing, second_missing, two_valueless}
use Rattle.body_rewrites.proofs.own.fold.on_two.Goals as goal

pub returns-in_default : goal.returns-in_default
returns-in_default c = first_missing c.args.operators.now c.args.at c.args.operation c.requires c.in_default.ensures.none

pub returns-in_default-constant_at : goal.returns-in_default-constant_at
returns-in_default-constant_at c = second_missing c.args.operators.now c.args.at c.args.operation c.requires c.in_default-constant_at.ensures.none

pub returns-in_default-value_on_two : goal.returns-in_default-value_on_two
returns-in_default-value_on_two c =
    two_valueless c.args.operators.now c.args.at c.args.operation c.requires c.in-Some.one c.in-Some-constant_at.two c.in-Some.ensures.some
    c.in-Some-constant_at.ensures.some c.in_default-value_on_two.ensures.none

pub returns : goal.returns
returns c = λ context.
    folded_two c.args.operators.now c.args.at c.args.operation c.requires c.in-Some.one c.in-Some-constant_at.two c.result.result
    c.in-Some-value_on_two.value c.result.ensures c.if-at-lt2.false c.in-Some.ensures.some c.in-Some-constant_at.ensures.some
    c.in-Some-value_on_two.ensures.some
