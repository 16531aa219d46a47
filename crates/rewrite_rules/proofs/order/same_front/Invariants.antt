-- Those so far stand in the same place on both sides.
use Rattle.std.proofs.Common.{◌≡◌, ◌≤◌, ◌-◌, length, drop}
use Rattle.rewrite_rules.specs.Order.{Doing, may_move}
use Rattle.rewrite_rules.proofs.order.same_front.Given as goal

abbrev pub invariant-loop-count : goal.invariant-loop-count
invariant-loop-count l =
    (l.count ≤ length l.left) × (l.count ≤ length l.right)
    × ((may : Doing) → may_move may l.left l.right ≡ may_move may (drop l.count l.left) (drop l.count l.right))

abbrev pub decreases-loop-count : goal.decreases-loop-count
decreases-loop-count l = length l.left - l.count
