use Rattle.rewrite_rules.proofs.ToldLemmas.{types_are_told}
use Rattle.rewrite_rules.proofs.laws.types_are_told.Goals as goal

pub returns : goal.returns
returns c = types_are_told
