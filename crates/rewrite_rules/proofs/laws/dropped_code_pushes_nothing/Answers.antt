use Rattle.rewrite_rules.proofs.FlowLemmas.{dropped_code_pushes_nothing}
use Rattle.rewrite_rules.proofs.laws.dropped_code_pushes_nothing.Goals as goal

pub returns : goal.returns
returns c = dropped_code_pushes_nothing c.typed_rows_check.ensures.push c.typed_rows_check.ensures.stay
