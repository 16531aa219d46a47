use Rattle.body_rewrites.proofs.OneBodyLemmas.{none_chosen, one_body}
use Rattle.body_rewrites.proofs.laws.words_write_one_body.Goals as goal

pub returns-clause-one : goal.returns-clause-one
returns-clause-one c = one_body c.one_change.ensures c.words_choose_one_rewrite.ensures

pub returns-clause-none : goal.returns-clause-none
returns-clause-none c = none_chosen
