-- None so far is the index.
use Rattle.std.proofs.Common.{◌≡◌, drop}
use Rattle.rewrite_rules.specs.Order.{is_in}
use Rattle.rewrite_rules.proofs.order.is_in.Given as goal

abbrev pub invariant-loop-i : goal.invariant-loop-i
invariant-loop-i l = is_in l.list l.index ≡ is_in (drop l.i l.list) l.index
