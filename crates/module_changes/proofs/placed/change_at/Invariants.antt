-- The changes so far, and what is left.
use Rattle.std.proofs.Common.{◌≡◌, ◌<◌, length, None}
use Rattle.module_changes.specs.Placed.{ChangesDown}
use Rattle.module_changes.proofs.placed.change_at.Given as goal

abbrev pub invariant-changes : goal.invariant-changes
invariant-changes l =
    ChangesDown l.at l.max_size l.bytes l.module.made.items l.module.bytes.items l.left × (0 < length l.module.made.items) × (l.module.stopped ≡ None)

abbrev pub decreases-changes : goal.decreases-changes
decreases-changes l = l.left
