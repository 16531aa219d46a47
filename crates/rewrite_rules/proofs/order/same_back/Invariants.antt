-- Those so far stand in the same place on both sides.
use Rattle.std.proofs.Common.{◌≡◌, ◌≤◌, ◌-◌, length, take}
use Rattle.rewrite_rules.specs.Order.{Doing, back, before_end}
use Rattle.rewrite_rules.proofs.order.same_back.Given as goal

abbrev pub invariant-loop-count : goal.invariant-loop-count
invariant-loop-count l =
    (l.count ≤ length l.left) × (l.count ≤ length l.right)
    × ((may : Doing) → before_end may (back l.left) (back l.right)
    ≡ before_end may (back (take (length l.left - l.count) l.left)) (back (take (length l.right - l.count) l.right)))

abbrev pub decreases-loop-count : goal.decreases-loop-count
decreases-loop-count l = length l.left - l.count
