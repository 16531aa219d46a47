use Rattle.wrapped_code.proofs.UnwrapDoesLemmas.{unwrapped_does}
use Rattle.wrapped_code.proofs.laws.unwrapped_code_does_as_before.Goals as goal

pub returns : goal.returns
returns c =
    let stay = c.valid_bodies_stay_valid.ensures in
    unwrapped_does c.standard_control_is_sound.ensures c.validity_goes_by_types.ensures.more stay.targets stay.deeds c.valid_code_runs.ensures
