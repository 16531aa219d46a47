use Rattle.std.proofs.Common.{arith}
use Rattle.rewrite_rules.proofs.NameLemmas.{few_names}
use Rattle.rewrite_rules.proofs.rule.Rule.from_number.Goals as goal

pub overflow_cast-result : goal.overflow_cast-result
overflow_cast-result c = let few = few_names in omega arith
