use Rattle.body_rewrites.proofs.LeftLemmas.{lefts_are_instances}
use Rattle.body_rewrites.proofs.laws.lefts_are_instances.Goals as goal

pub returns : goal.returns
returns c = lefts_are_instances c.matches_are_the_code.ensures c.parts_are_the_code.ensures c.sides_are_parts.ensures
