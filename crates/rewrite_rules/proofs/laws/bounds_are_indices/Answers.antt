use Rattle.rewrite_rules.proofs.FlowLemmas.{bounds_are_indices}
use Rattle.rewrite_rules.proofs.laws.bounds_are_indices.Goals as goal

pub returns : goal.returns
returns c = bounds_are_indices c.typed_rows_check.ensures.push c.typed_rows_check.ensures.stay c.indices_may_be_bounded.ensures
