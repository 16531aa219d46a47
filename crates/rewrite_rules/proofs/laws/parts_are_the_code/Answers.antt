use Rattle.rewrite_rules.proofs.PartLemmas.{parts_are_the_code}
use Rattle.rewrite_rules.proofs.laws.parts_are_the_code.Goals as goal

pub returns : goal.returns
returns c = parts_are_the_code
