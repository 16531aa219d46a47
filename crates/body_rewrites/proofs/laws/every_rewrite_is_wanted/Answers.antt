use Rattle.body_rewrites.proofs.ChoiceLemmas.{every_is_wanted}
use Rattle.body_rewrites.proofs.laws.every_rewrite_is_wanted.Goals as goal

pub returns : goal.returns
returns c = every_is_wanted
