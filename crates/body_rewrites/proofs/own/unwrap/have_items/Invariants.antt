-- Those from the first one on stand there where those from this one on do, and the other way round.
use Rattle.std.proofs.Common.{◌+◌, drop}
use Rattle.body_rewrites.specs.Own.{HaveItems}
use Rattle.body_rewrites.proofs.own.unwrap.have_items.Given as goal

abbrev pub invariant-loop-i : goal.invariant-loop-i
invariant-loop-i l =
    (HaveItems l.operators (l.start + l.i) (drop l.i l.items) l.t → HaveItems l.operators l.start l.items l.t) ×
    (HaveItems l.operators l.start l.items l.t → HaveItems l.operators (l.start + l.i) (drop l.i l.items) l.t)
