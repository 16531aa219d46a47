use Rattle.wrapped_code.proofs.DeadLemmas.{dead_changes}
use Rattle.wrapped_code.proofs.laws.dead_code_may_change.Goals as goal

pub returns : goal.returns
returns c =
    let stay = c.valid_bodies_stay_valid.ensures in dead_changes c.validity_goes_by_types.ensures.more stay.targets stay.deeds
