-- What the words choose.
use Rattle.std.proofs.Common.{◌≡◌, length, sym, subst, arith}
use Rattle.std.proofs.lemmas.Grind.{common_steps}
use Rattle.body_rewrites.specs.Places.{context_of}
use Rattle.body_rewrites.specs.Listing.{AreThose}
use Rattle.body_rewrites.specs.Counting.{AreCounts, IsOpenBy, HasOpenBy}
use Rattle.body_rewrites.proofs.ChoiceLemmas.{chosen, empty_is, has_count, has_open_rule, never_past, none_open}
use Rattle.body_rewrites.proofs.choice.choose.Goals as goal

pub returns-then-is_empty-clause-none : goal.returns-then-is_empty-clause-none
returns-then-is_empty-clause-none g c =
    let context = context_of c.args.body.now in
    let operators = c.args.body.now.operators.now in
    let counts = c.as_slice-counts.result.now in
    let none = c.if-is_empty.true in
    let empty : length c.in_ok-kinds.kinds.items ≡ 0 = grind (arith, common_steps) in
    none_open context operators counts (subst (AreCounts context operators (length operators)) (sym c.as_slice-counts.ensures.value) c.in_ok-counted.ensures)
    c.args.rules.now c.args.wanted.now
    (subst (AreThose (HasOpenBy counts c.args.rules.now) c.args.wanted.now) (empty_is c.in_ok-kinds.kinds.items empty) c.in_ok-kinds.ensures)

pub draw-rule-requires : goal.draw-rule-requires
draw-rule-requires g c =
    let counts = c.as_slice-counts.result.now in
    has_open_rule counts c.args.rules.now c.args.wanted.now c.as_slice.result.now
    (subst (AreThose (HasOpenBy counts c.args.rules.now) c.args.wanted.now) (sym c.as_slice.ensures.value) c.in_ok-kinds.ensures) _ c.draw-growth.result
    c.draw-growth.ensures.drawn c.as_slice-2.result.now
    (subst (AreThose (IsOpenBy counts c.draw-growth.result) c.args.rules.now) (sym c.as_slice-2.ensures.value) c.in_ok-ways.ensures)

pub draw_below-number-requires : goal.draw_below-number-requires
draw_below-number-requires g c =
    let counts = c.as_slice-counts.result.now in
    has_count counts c.args.rules.now c.args.wanted.now c.draw-growth.result c.as_slice-2.result.now
    (subst (AreThose (IsOpenBy counts c.draw-growth.result) c.args.rules.now) (sym c.as_slice-2.ensures.value) c.in_ok-ways.ensures) _ c.draw-rule.result
    c.draw-rule.ensures.drawn c.count_of-count.result c.count_of-count.ensures

pub unreachable-requires : goal.unreachable-requires
unreachable-requires g c =
    let context = context_of c.args.body.now in
    let operators = c.args.body.now.operators.now in
    never_past context operators c.as_slice-counts.result.now
    (subst (AreCounts context operators (length operators)) (sym c.as_slice-counts.ensures.value) c.in_ok-counted.ensures) c.draw-growth.result
    c.draw-rule.result c.count_of-count.result c.draw_below-number.result c.count_of-count.ensures c.draw_below-number.ensures.below
    (rw c.in-None.is at c.in_ok-rewrite.ensures.none)

pub returns-clause-chosen : goal.returns-clause-chosen
returns-clause-chosen g c =
    let context = context_of c.args.body.now in
    let operators = c.args.body.now.operators.now in
    let counts = c.as_slice-counts.result.now in
    chosen context operators counts (subst (AreCounts context operators (length operators)) (sym c.as_slice-counts.ensures.value) c.in_ok-counted.ensures)
    (g.R.Rng.stream c.args.generator.now) (g.R.Rng.stream c.draw-growth.new.generator) (g.R.Rng.stream c.draw-rule.new.generator)
    c.draw-growth.ensures.after c.draw-rule.ensures.after c.args.rules.now c.args.wanted.now c.as_slice.result.now
    (subst (AreThose (HasOpenBy counts c.args.rules.now) c.args.wanted.now) (sym c.as_slice.ensures.value) c.in_ok-kinds.ensures) c.draw-growth.result
    c.draw-growth.ensures.drawn c.as_slice-2.result.now
    (subst (AreThose (IsOpenBy counts c.draw-growth.result) c.args.rules.now) (sym c.as_slice-2.ensures.value) c.in_ok-ways.ensures) c.draw-rule.result
    c.draw-rule.ensures.drawn c.count_of-count.result c.draw_below-number.result c.in-Some.rewrite c.count_of-count.ensures
    c.draw_below-number.ensures.drawn (rw c.in-Some.is at c.in_ok-rewrite.ensures.some)
