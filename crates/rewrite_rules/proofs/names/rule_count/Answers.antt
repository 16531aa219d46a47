use Rattle.std.proofs.Common.{◌+◌, ◌≤◌, length, sym, subst, arith}
use Rattle.rewrite_rules.specs.Names.{begins}
use Rattle.rewrite_rules.proofs.NameLemmas.{AreCounted, counted_some, counted_none, all_counted, as_long}
use Rattle.rewrite_rules.proofs.names.rule_count.Goals as goal
use Rattle.rewrite_rules.proofs.names.rule_count.Goals.{in-Some, in_default}

pub loop-index-preserved : goal.loop-index-preserved
loop-index-preserved c =
    let i = c.loop-index.index in
    let count = c.loop-index.count in
    let h = c.loop-index.invariant in
    elim c.match-name_at.branch [
      | in-Some w ↦ subst (AreCounted begins (i + 1)) (sym w.count-is) (counted_some begins i count _ h (sym w.in-Some.ensures))
      | in_default w ↦ subst (AreCounted begins (i + 1)) (sym w.count-is) (counted_none begins i count h (sym w.in_default.ensures))
    ]

pub returns : goal.returns
returns c =
    let e = as_long in
    let l : length begins ≤ c.loop-index.index = omega arith in
    all_counted begins c.loop-index.index c.loop-index.count c.loop-index.invariant l
