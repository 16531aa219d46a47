-- None so far.
use Rattle.body_changes.specs.Body.{ChangesIn}
use Rattle.body_changes.specs.Chosen.{NoneWithin}
use Rattle.body_changes.proofs.changing.changed_within.Given as goal

abbrev pub invariant-loop-at : goal.invariant-loop-at
invariant-loop-at l = NoneWithin (ChangesIn l.fn.body l.fn.words l.fn.change) l.fn.range.start l.at
