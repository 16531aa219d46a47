-- None of those behind it.
use Rattle.std.proofs.Common.{◌≤◌}
use Rattle.body_changes.specs.Body.{ChangesIn}
use Rattle.body_changes.specs.Chosen.{NoneWithin}
use Rattle.body_changes.proofs.changing.change_last.Given as goal

abbrev pub invariant-loop-end : goal.invariant-loop-end
invariant-loop-end l = (l.end ≤ l.fn.range.end) × NoneWithin (ChangesIn l.body l.words l.change) l.end l.fn.range.end

abbrev pub decreases-loop-end : goal.decreases-loop-end
decreases-loop-end l = l.end
