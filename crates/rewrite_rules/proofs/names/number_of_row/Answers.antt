-- The names up to the row.
use Rattle.std.proofs.Common.{◌≡◌, ◌+◌, length, take, sym, subst, ◌∙◌, arith}
use Rattle.rewrite_rules.specs.Names.{begins, given}
use Rattle.rewrite_rules.proofs.NameLemmas.{one_more, no_more, rule_here, rule_below}
use Rattle.rewrite_rules.proofs.names.number_of_row.Goals as goal
use Rattle.rewrite_rules.proofs.names.number_of_row.Goals.{in-Some, in_default}

pub loop-index-preserved : goal.loop-index-preserved
loop-index-preserved c =
    let i = c.loop-index.index in
    let count = c.loop-index.count in
    let h = c.loop-index.invariant in
    elim c.match-name_at.branch [
      | in-Some w ↦ record { counted = w.count-is ∙ one_more begins i count _ h.counted (sym w.in-Some.ensures); few = omega arith }
      | in_default w ↦ record { counted = w.count-is ∙ no_more begins i count h.counted (sym w.in_default.ensures); few = omega arith }
    ]

pub returns-clause-is : goal.returns-clause-is
returns-clause-is c =
    let end : c.loop-index.index ≡ c.args.row + 1 = omega (arith, c.loop-index-test.false, c.loop-index.auto.index-end) in
    sym (rule_here c.args.row c.loop-index.count c.saturating_sub.result (omega arith)
    (subst (λ n. c.loop-index.count ≡ length (given (take n begins))) end c.loop-index.invariant.counted) c.saturating_sub.ensures)

pub returns-clause-below : goal.returns-clause-below
returns-clause-below c = rule_below c.loop-index.index c.loop-index.count c.saturating_sub.result c.loop-index.invariant.counted c.saturating_sub.ensures
