use Rattle.rewrite_rules.proofs.FlowLemmas.{selects_are_conditionals}
use Rattle.rewrite_rules.proofs.laws.selects_are_conditionals.Goals as goal

pub returns : goal.returns
returns c =
    selects_are_conditionals c.typed_rows_check.ensures.push c.typed_rows_check.ensures.stay c.wrapped_code_pushes.ensures.push
    c.wrapped_code_pushes.ensures.alike c.wrapped_code_runs.ensures c.some_code_is_pure.ensures c.typed_code_is_alone.ensures
