-- The number lies between where two of them begin.
use Rattle.std.proofs.Common.{◌<◌, ◌≤◌, ◌-◌, length, get_or}
use Rattle.rewrite_rules.specs.declared.lines.TheConstants.{STARTS}
use Rattle.rewrite_rules.proofs.lines.part_of.Given as goal

abbrev pub invariant-loop-high : goal.invariant-loop-high
invariant-loop-high l =
    (l.low < l.high) × (l.high ≤ length STARTS) × (get_or STARTS l.low 0 ≤ l.number) × (l.high < length STARTS → l.number < get_or STARTS l.high 0)

abbrev pub decreases-loop-high : goal.decreases-loop-high
decreases-loop-high l = l.high - l.low
