use Rattle.rewrite_rules.proofs.identities.TableLemmas.{table_is_right}
use Rattle.rewrite_rules.proofs.laws.table_is_right.Goals as goal

pub returns : goal.returns
returns c = table_is_right c.lines_keep_code.ensures
