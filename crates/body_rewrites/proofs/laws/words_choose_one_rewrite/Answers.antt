use Rattle.body_rewrites.proofs.HasWordsLemmas.{chooses_one}
use Rattle.body_rewrites.proofs.laws.words_choose_one_rewrite.Goals as goal

pub returns : goal.returns
returns c = chooses_one
