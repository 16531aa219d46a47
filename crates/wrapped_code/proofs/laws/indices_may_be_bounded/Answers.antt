use Rattle.wrapped_code.proofs.BoundLemmas.{indices_are_bounded}
use Rattle.wrapped_code.proofs.laws.indices_may_be_bounded.Goals as goal

pub returns : goal.returns
returns c = indices_are_bounded c.typed_rows_check.ensures.push c.valid_code_runs.ensures
