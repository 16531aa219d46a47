use Rattle.body_rewrites.proofs.CodeLemmas.{matches_are_the_code}
use Rattle.body_rewrites.proofs.laws.matches_are_the_code.Goals as goal

pub returns : goal.returns
returns c = matches_are_the_code
