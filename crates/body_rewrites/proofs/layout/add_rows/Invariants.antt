-- Those of the rows so far.
use Rattle.std.proofs.Common.{take}
use Rattle.rewrite_rules.specs.Table.{ROWS}
use Rattle.body_rewrites.specs.Asking.{asked_from, AreLaidOut}
use Rattle.body_rewrites.proofs.layout.add_rows.Given as goal

abbrev pub invariant-loop-number : goal.invariant-loop-number
invariant-loop-number l = AreLaidOut l.exact l.used (asked_from 0 (take l.number ROWS)) l.lists l.alone.items
