-- Those so far have theirs.
use Rattle.std.proofs.Common.{◌≡◌, drop}
use Rattle.rewrite_rules.specs.Table.{kinds_for}
use Rattle.rewrite_rules.specs.Operands.{have_types}
use Rattle.rewrite_rules.proofs.operands.have_types.Given as goal

abbrev pub invariant-loop-i : goal.invariant-loop-i
invariant-loop-i l = have_types l.select (kinds_for l.widths l.width) 0 l.types ≡ have_types l.select (kinds_for l.widths l.width) l.i (drop l.i l.types)
