use Rattle.wrapped_code.proofs.DoesLemmas.{wrapped_does, wrapped_more, wrapped_stays}
use Rattle.wrapped_code.proofs.laws.wrapped_code_does_as_before.Goals as goal

pub returns-clause-does : goal.returns-clause-does
returns-clause-does c =
    let stay = c.valid_bodies_stay_valid.ensures in
    wrapped_does c.standard_control_is_sound.ensures c.validity_goes_by_types.ensures.more stay.targets stay.deeds

pub returns-clause-more : goal.returns-clause-more
returns-clause-more c =
    let stay = c.valid_bodies_stay_valid.ensures in
    wrapped_more (wrapped_does c.standard_control_is_sound.ensures c.validity_goes_by_types.ensures.more stay.targets stay.deeds)
    c.one_function_is_rewritten.ensures.one c.valid_modules_do_more.ensures.more

pub returns-clause-valid : goal.returns-clause-valid
returns-clause-valid c =
    let stay = c.valid_bodies_stay_valid.ensures in
    wrapped_stays (wrapped_does c.standard_control_is_sound.ensures c.validity_goes_by_types.ensures.more stay.targets stay.deeds)
    c.one_function_is_rewritten.ensures.one c.valid_modules_do_more.ensures.valid
