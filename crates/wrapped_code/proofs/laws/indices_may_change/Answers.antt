use Rattle.wrapped_code.proofs.IndexLemmas.{indices_change}
use Rattle.wrapped_code.proofs.laws.indices_may_change.Goals as goal

pub returns : goal.returns
returns c =
    let stay = c.valid_bodies_stay_valid.ensures in
    indices_change c.standard_control_is_sound.ensures c.valid_code_runs.ensures c.validity_goes_by_types.ensures.more
    c.replaced_code_stays_valid.ensures stay.valid stay.targets stay.deeds
