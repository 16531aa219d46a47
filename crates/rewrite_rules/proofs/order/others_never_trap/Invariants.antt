-- No other one so far may trap.
use Rattle.std.proofs.Common.{◌≡◌, drop}
use Rattle.rewrite_rules.specs.Order.{every}
use Rattle.rewrite_rules.proofs.MovingLemmas.{traps_only}
use Rattle.rewrite_rules.proofs.order.others_never_trap.Given as goal

abbrev pub invariant-loop-i : goal.invariant-loop-i
invariant-loop-i l = every (traps_only l.effects l.index) l.list ≡ every (traps_only l.effects l.index) (drop l.i l.list)
