-- No hole so far may have any type.
use Rattle.std.proofs.Common.{◌≡◌, drop}
use Rattle.rewrite_rules.specs.Table.{kinds_for}
use Rattle.rewrite_rules.specs.Operands.{select_type}
use Rattle.rewrite_rules.proofs.operands.select_type.Given as goal

abbrev pub invariant-loop-i : goal.invariant-loop-i
invariant-loop-i l = select_type (kinds_for l.widths l.width) 0 l.types ≡ select_type (kinds_for l.widths l.width) l.i (drop l.i l.types)
