use Rattle.rewrite_rules.proofs.AccessFormedLemmas.{accesses_are_formed}
use Rattle.rewrite_rules.proofs.laws.accesses_are_formed.Goals as goal

pub returns : goal.returns
returns c = accesses_are_formed
