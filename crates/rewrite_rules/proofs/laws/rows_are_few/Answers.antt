use Rattle.rewrite_rules.proofs.NameLemmas.{few_rows, few_names}
use Rattle.rewrite_rules.proofs.laws.rows_are_few.Goals as goal

pub returns : goal.returns
returns c = record { rows = few_rows; names = few_names }
