-- Function by function.
use Rattle.module_changes.proofs.PlacedLemmas.{down_stays}
use Rattle.module_changes.proofs.ValidLemmas.{each_stays, one_stays, spliced_stays, stays_as_it_is, stays_follow, OfValidity}
use Rattle.module_changes.proofs.laws.changed_modules_stay_valid.Goals as goal

pub returns : goal.returns
returns c =
    let law : OfValidity = record {
      one = c.one_reading.ensures;
      again = c.functions_stand_again.ensures;
      bodies = c.valid_bodies_stay_valid.ensures.valid;
      targets = c.valid_bodies_stay_valid.ensures.targets;
      deeds = c.valid_bodies_stay_valid.ensures.deeds;
      more = c.validity_goes_by_types.ensures.more;
    } in
    record {
      one = one_stays law;
      each = each_stays law;
      spliced = spliced_stays law;
      down = down_stays law;
      itself = stays_as_it_is;
      follow = stays_follow;
    }
