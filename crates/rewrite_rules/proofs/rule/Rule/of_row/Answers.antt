-- There are few names.
use Rattle.std.proofs.Common.{arith}
use Rattle.rewrite_rules.proofs.NameLemmas.{few_names}
use Rattle.rewrite_rules.proofs.rule.Rule.of_row.Goals as goal

pub overflow_cast-result : goal.overflow_cast-result
overflow_cast-result c = let few = few_names in let below = c.in_ok-number.ensures.below in omega arith
