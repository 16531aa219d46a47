-- By that of the last row.
use Rattle.std.proofs.Common.{arith, sym, ◌∙◌}
use Rattle.body_rewrites.proofs.CountingLemmas.{some_rows, last_is, last_there}
use Rattle.body_rewrites.proofs.counts.rule_count.Goals as goal

pub overflow_sub-row_count : goal.overflow_sub-row_count
overflow_sub-row_count c = let some = some_rows in let is = c.row_count.ensures in omega arith

pub returns-in-Some : goal.returns-in-Some
returns-in-Some c = last_is c.row_count.result c.row_count.ensures c.in-Some.last (sym c.rule_at.ensures ∙ c.in-Some.is)

pub returns-in-None : goal.returns-in-None
returns-in-None c = absurd (last_there c.row_count.result c.row_count.ensures (sym c.rule_at.ensures ∙ c.in-None.is))
