use Rattle.rewrite_rules.proofs.FlowLemmas.{dropped_constants_push_nothing}
use Rattle.rewrite_rules.proofs.laws.dropped_constants_push_nothing.Goals as goal

pub returns : goal.returns
returns c = dropped_constants_push_nothing c.typed_rows_check.ensures.push
