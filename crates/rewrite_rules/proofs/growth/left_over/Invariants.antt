-- Those so far are taken away.
use Rattle.std.proofs.Common.{◌≡◌, drop}
use Rattle.rewrite_rules.specs.Growth.{left_over}
use Rattle.rewrite_rules.proofs.growth.left_over.Given as goal

abbrev pub invariant-loop-i : goal.invariant-loop-i
invariant-loop-i l = left_over l.taken l.fn.holes.items ≡ left_over (drop l.i l.taken) l.rest.items
