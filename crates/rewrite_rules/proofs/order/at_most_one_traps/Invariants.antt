-- None so far may trap.
use Rattle.std.proofs.Common.{◌≡◌, drop}
use Rattle.rewrite_rules.specs.Order.{at_most_one_passes, effect_at}
use Rattle.rewrite_rules.proofs.order.at_most_one_traps.Given as goal

abbrev pub invariant-loop-i : goal.invariant-loop-i
invariant-loop-i l = at_most_one_passes (λ n. (effect_at l.effects n).traps) l.list ≡ at_most_one_passes (λ n. (effect_at l.effects n).traps) (drop l.i l.list)
