use Rattle.std.proofs.Common.{◌≡◌, ◌+◌, ◌<◌, ◌≤◌, Some, length, sym, ap, subst, ◌∙◌, arith}
use Rattle.std.specs.Prelude.{slice_get}
use Rattle.std.specs.Cmp.Lexicographic.{same_text, other_text}
use Rattle.std.proofs.lemmas.Option.{same_Some, slice_get_within}
use borrow.Author.Count.{below_more}
use Rattle.rewrite_rules.specs.Names.{begins, names}
use Rattle.rewrite_rules.proofs.NameLemmas.{AreCounted, counted_some, counted_none, number_here, all_counted, as_long}
use Rattle.rewrite_rules.proofs.names.number_of.Goals as goal
use Rattle.rewrite_rules.proofs.names.number_of.Goals.{in-Some+else-eq, in_default}

pub returns-then-eq-clause-some : goal.returns-then-eq-clause-some
returns-then-eq-clause-some c =
    number_here begins c.loop-index.index c.loop-index.count _ c.loop-index.invariant.counted (sym c.in-Some.ensures)
    ∙ ap (λ t. Some t) (same_text c.in-Some.known.now c.args.name.now c.if-eq.ensures)

pub loop-index-preserved : goal.loop-index-preserved
loop-index-preserved c =
    let i = c.loop-index.index in
    let count = c.loop-index.count in
    let h = c.loop-index.invariant.counted in
    let others = c.loop-index.invariant.others in
    elim c.match-name_at.branch [
      | in-Some+else-eq w ↦
          let here = number_here begins i count _ h (sym w.in-Some.ensures) in
          let more = below_more (λ k. slice_get names k ≡ Some c.args.name.now → ⊥) count others
          (λ e. other_text w.in-Some.known.now c.args.name.now w.if-eq.ensures (same_Some _ _ (sym here ∙ e))) in
          record {
            counted = subst (AreCounted begins (i + 1)) (sym w.count-is) (counted_some begins i count _ h (sym w.in-Some.ensures));
            others = λ k l. more k (subst (λ n. k < n) w.count-is l);
          }
      | in_default w ↦ record {
        counted = subst (AreCounted begins (i + 1)) (sym w.count-is) (counted_none begins i count h (sym w.in_default.ensures));
        others = λ k l. others k (subst (λ n. k < n) w.count-is l);
      }
    ]

pub returns-clause-none : goal.returns-clause-none
returns-clause-none c = λ number e.
    let long = as_long in
    let l : length begins ≤ c.loop-index.index = omega arith in
    let all = all_counted begins c.loop-index.index c.loop-index.count c.loop-index.invariant.counted l in
    c.loop-index.invariant.others number (subst (λ n. number < n) (sym all) (slice_get_within names number _ e)) e
