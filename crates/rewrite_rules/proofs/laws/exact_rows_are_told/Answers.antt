use Rattle.rewrite_rules.proofs.ExactStepLemmas.{exact_is_told}
use Rattle.rewrite_rules.proofs.laws.exact_rows_are_told.Goals as goal

pub returns : goal.returns
returns c = exact_is_told
