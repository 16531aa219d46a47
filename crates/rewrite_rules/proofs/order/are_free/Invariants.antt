-- Those so far are free.
use Rattle.std.proofs.Common.{◌≡◌, drop}
use Rattle.rewrite_rules.specs.Order.{every, is_free, doing_of}
use Rattle.rewrite_rules.proofs.order.are_free.Given as goal

abbrev pub invariant-loop-i : goal.invariant-loop-i
invariant-loop-i l = every (is_free (doing_of l.effects) l.left l.right) l.left ≡ every (is_free (doing_of l.effects) l.left l.right) (drop l.i l.left)
