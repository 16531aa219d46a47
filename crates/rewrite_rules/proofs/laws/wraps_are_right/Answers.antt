use Rattle.rewrite_rules.proofs.WrapLemmas.{wraps_are_right}
use Rattle.rewrite_rules.proofs.laws.wraps_are_right.Goals as goal

pub returns : goal.returns
returns c =
    wraps_are_right c.typed_rows_check.ensures.push c.typed_rows_check.ensures.stay c.wrapped_code_pushes.ensures.push
    c.wrapped_code_pushes.ensures.alike c.wrapped_code_runs.ensures
