-- What is left behind those so far.
use Rattle.std.proofs.Common.{◌≡◌, ◌+◌, drop}
use Rattle.rewrite_rules.specs.Table.{parts_for}
use Rattle.body_rewrites.specs.Writing.{parts_count}
use Rattle.body_rewrites.proofs.line_growth.side_growth.Given as goal

abbrev pub invariant-loop-i : goal.invariant-loop-i
invariant-loop-i l =
    parts_count l.operators l.place.operands (parts_for l.width l.side) + l.left
    ≡ l.old + parts_count l.operators l.place.operands (parts_for l.width (drop l.i l.side))
