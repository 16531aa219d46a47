-- An operator takes one operand or two.
use Rattle.body_rewrites.proofs.OwnFoldLemmas.{no_operation, first_found, second_found}
use Rattle.std.proofs.Common.{sym, ◌∙◌}
use Rattle.body_rewrites.proofs.own.fold.find.Goals as goal

pub returns-in_default : goal.returns-in_default
returns-in_default c = no_operation c.args.operators.now c.args.at c.in_default.ensures.none

pub returns-then-is_some : goal.returns-then-is_some
returns-then-is_some c = first_found c.args.operators.now c.args.at c.on_one-one.result (sym c.is_some.ensures ∙ c.if-is_some.true) c.on_one-one.ensures

pub returns : goal.returns
returns c =
    second_found c.args.operators.now c.args.at c.on_one-one.result c.on_two.result (sym c.is_some.ensures ∙ c.if-is_some.false) c.on_one-one.ensures
    c.on_two.ensures
