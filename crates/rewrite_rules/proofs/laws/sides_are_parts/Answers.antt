use Rattle.rewrite_rules.proofs.SideLemmas.{sides_are_parts}
use Rattle.rewrite_rules.proofs.laws.sides_are_parts.Goals as goal

pub returns : goal.returns
returns c = sides_are_parts c.table_is_right.ensures
