use Rattle.std.proofs.Common.{◌+◌, ◌≤◌, length, sym, ap, subst, ◌∙◌, arith}
use Rattle.std.specs.Prelude.{slice_get}
use Rattle.rewrite_rules.specs.Names.{begins, names}
use Rattle.rewrite_rules.proofs.NameLemmas.{AreCounted, counted_some, counted_none, number_here, is_none, as_long}
use Rattle.rewrite_rules.proofs.names.name_of.Goals as goal
use Rattle.rewrite_rules.proofs.names.name_of.Goals.{in-Some+else-count-number, in_default}

pub returns-then-count-number : goal.returns-then-count-number
returns-then-count-number c =
    sym (number_here begins c.loop-index.index c.loop-index.count _ c.loop-index.invariant.counted (sym c.in-Some.ensures))
    ∙ ap (slice_get names) c.if-count-number.true

pub loop-index-preserved : goal.loop-index-preserved
loop-index-preserved c =
    let i = c.loop-index.index in
    let count = c.loop-index.count in
    let h = c.loop-index.invariant.counted in
    elim c.match-name_at.branch [
      | in-Some+else-count-number w ↦ record {
        counted = subst (AreCounted begins (i + 1)) (sym w.count-is) (counted_some begins i count _ h (sym w.in-Some.ensures));
        before = omega arith;
      }
      | in_default w ↦ record {
        counted = subst (AreCounted begins (i + 1)) (sym w.count-is) (counted_none begins i count h (sym w.in_default.ensures));
        before = omega arith;
      }
    ]

pub returns : goal.returns
returns c =
    let e = as_long in
    let l : length begins ≤ c.loop-index.index = omega arith in
    sym (is_none begins c.loop-index.index c.loop-index.count c.args.number c.loop-index.invariant.counted l c.loop-index.invariant.before)
