use Rattle.std.proofs.Common.{refl}
use Rattle.body_rewrites.proofs.OpenLemmas.{nothing_open}
use Rattle.body_rewrites.proofs.trees.Open.new.Goals as goal

pub returns : goal.returns
returns c context operators = nothing_open context operators _ c.new.ensures.items c.new-2.ensures.items refl refl refl
