use Rattle.rewrite_rules.proofs.FlowLemmas.{tests_are_conditions}
use Rattle.rewrite_rules.proofs.laws.tests_are_conditions.Goals as goal

pub returns : goal.returns
returns c = tests_are_conditions c.typed_rows_check.ensures.push c.typed_rows_check.ensures.stay c.some_conditions_are_as_true.ensures
