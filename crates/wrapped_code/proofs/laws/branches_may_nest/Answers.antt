use Rattle.wrapped_code.proofs.NestedLemmas.{branches_nest, branches_unnest}
use Rattle.wrapped_code.proofs.laws.branches_may_nest.Goals as goal

pub returns-clause-nest : goal.returns-clause-nest
returns-clause-nest c =
    let stay = c.valid_bodies_stay_valid.ensures in branches_nest c.validity_goes_by_types.ensures.more stay.targets stay.deeds

pub returns-clause-unnest : goal.returns-clause-unnest
returns-clause-unnest c =
    let stay = c.valid_bodies_stay_valid.ensures in branches_unnest c.validity_goes_by_types.ensures.more stay.targets stay.deeds
