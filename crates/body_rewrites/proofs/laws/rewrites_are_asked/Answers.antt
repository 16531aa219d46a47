use Rattle.body_rewrites.proofs.HasWordsLemmas.{made_is_asked}
use Rattle.body_rewrites.proofs.laws.rewrites_are_asked.Goals as goal

pub returns : goal.returns
returns c = made_is_asked
