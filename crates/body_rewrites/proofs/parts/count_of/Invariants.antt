-- Each so far is one.
use Rattle.std.proofs.Common.{◌≡◌, ◌+◌, drop, length}
use Rattle.wasm_execution.specs.declared.integer.IntegerType.{IntegerType}
use Rattle.rewrite_rules.specs.Table.{parts_for}
use Rattle.body_rewrites.proofs.parts.count_of.Given as goal

abbrev pub invariant-loop-i : goal.invariant-loop-i
invariant-loop-i l = (width : IntegerType) → length (parts_for width l.side) ≡ l.i + length (parts_for width (drop l.i l.side))
