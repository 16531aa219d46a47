-- None so far is the index.
use Rattle.std.proofs.Common.{◌≡◌, drop}
use Rattle.rewrite_rules.specs.Order.{is_twice}
use Rattle.rewrite_rules.proofs.order.is_twice.Given as goal

abbrev pub invariant-loop-i : goal.invariant-loop-i
invariant-loop-i l = is_twice l.list l.index ≡ is_twice (drop l.i l.list) l.index
