use Rattle.rewrite_rules.proofs.HoleLemmas.{holes_are_told}
use Rattle.rewrite_rules.proofs.laws.holes_are_told.Goals as goal

pub returns : goal.returns
returns c = holes_are_told
