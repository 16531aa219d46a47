-- Those so far are the same.
use Rattle.std.proofs.Common.{◌+◌}
use Rattle.body_rewrites.specs.Matching.{HaveSameCode}
use Rattle.body_rewrites.proofs.matching.are_same.Given as goal

abbrev pub invariant-loop-i : goal.invariant-loop-i
invariant-loop-i l = HaveSameCode l.operators (l.one.0, l.one.0 + l.i) (l.other.0, l.other.0 + l.i)
