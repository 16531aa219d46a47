use Rattle.body_rewrites.proofs.RandomLemmas.{chosen_is_wanted}
use Rattle.body_rewrites.proofs.laws.chosen_rewrites_are_wanted.Goals as goal

pub returns : goal.returns
returns c = chosen_is_wanted
