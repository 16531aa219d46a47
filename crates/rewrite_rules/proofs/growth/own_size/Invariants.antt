-- Those so far, at most one for each step.
use Rattle.std.proofs.Common.{◌≡◌, ◌+◌, ◌≤◌, drop}
use Rattle.rewrite_rules.specs.Growing.{own_steps}
use Rattle.rewrite_rules.proofs.growth.own_size.Given as goal

abbrev pub invariant-loop-i : goal.invariant-loop-i
invariant-loop-i l = (own_steps l.side ≡ l.count + own_steps (drop l.i l.side)) × (l.count ≤ l.i)
