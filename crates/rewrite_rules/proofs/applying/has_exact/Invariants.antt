-- None of the steps so far is one, nor ends the side.
use Rattle.std.proofs.Common.{◌≡◌, drop}
use Rattle.rewrite_rules.specs.Table.{has_exact}
use Rattle.rewrite_rules.proofs.applying.has_exact.Given as goal

abbrev pub invariant-loop-i : goal.invariant-loop-i
invariant-loop-i l = has_exact l.side ≡ has_exact (drop l.i l.side)
