-- Those of the rows so far.
use Rattle.std.proofs.Common.{◌≡◌, take}
use Rattle.std.specs.List.{filter}
use Rattle.rewrite_rules.specs.Table.{ROWS}
use Rattle.body_rewrites.specs.Asking.{asked_from}
use Rattle.body_rewrites.specs.Counting.{is_of}
use Rattle.body_rewrites.proofs.counts.lines_of.Given as goal

abbrev pub invariant-loop-number : goal.invariant-loop-number
invariant-loop-number l = l.list.items ≡ filter (is_of l.fn.rule) (asked_from 0 (take l.number ROWS))
