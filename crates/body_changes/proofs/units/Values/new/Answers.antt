-- No value.
use Rattle.body_changes.proofs.KeptLemmas.{nothing_before, same_values}
use Rattle.body_changes.proofs.units.Values.new.Goals as goal

pub returns : goal.returns
returns c context operators =
    same_values context operators 0 _ _ _ _ c.new.ensures.items c.new-2.ensures.items (nothing_before context operators)
