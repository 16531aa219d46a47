-- None so far is.
use Rattle.std.proofs.Common.{◌≡◌, drop}
use Rattle.body_rewrites.specs.Reached.{has_wanted}
use Rattle.body_rewrites.proofs.reached.has_wanted.Given as goal

abbrev pub invariant-loop-i : goal.invariant-loop-i
invariant-loop-i l = has_wanted l.rows l.rules l.wanted l.found ≡ has_wanted l.rows l.rules l.wanted (drop l.i l.found)
