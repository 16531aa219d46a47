-- By what bounds the index, and by the code before it, which stands twice.
use Rattle.std.proofs.Common.{◌+◌, ◌-◌, refl, sym, subst, ◌∙◌, arith}
use Rattle.std.proofs.lemmas.Bool.{false≢true}
use Rattle.body_rewrites.specs.Matching.{HaveSameCode}
use Rattle.body_rewrites.proofs.IndexLemmas.{bound_place, bound_there}
use Rattle.body_rewrites.proofs.OwnAloneLemmas.{one_read}
use Rattle.body_rewrites.proofs.IndexFindLemmas.{copy_begins, copy_read, index_before, is_bounded, no_bounded, number_before, same_twice}
use Rattle.body_rewrites.proofs.own.drop_index_bound.find.Goals as goal

pub returns-in_default : goal.returns-in_default
returns-in_default c = λ context trees.
    no_bounded context c.args.operators.now c.args.at (λ start end h.
    c.in_default.ensures.none (bound_place context c.args.operators.now start c.args.at end h) h.count
    (bound_there context c.args.operators.now start c.args.at end h))

pub returns-in_default-read_before : goal.returns-in_default-read_before
returns-in_default-read_before c = λ context trees.
    no_bounded context c.args.operators.now c.args.at (λ start end h.
    c.in_default-read_before.ensures.none context c.args.operators.now trees (end + 1)
    (copy_read context c.args.operators.now c.args.at c.in-Some.place c.in-Some.count c.in-Some.ensures.some start end h))

pub returns-then-copy-eq0 : goal.returns-then-copy-eq0
returns-then-copy-eq0 c = λ context trees.
    no_bounded context c.args.operators.now c.args.at (λ start end h.
    let begins = copy_begins context c.args.operators.now c.args.at c.in-Some.place c.in-Some.count c.in-Some.ensures.some c.in-Some-read_before.copy
    (c.in-Some-read_before.ensures.some context c.args.operators.now trees) start end h in
    absurd (omega (arith, begins, c.if-copy-eq0.true)))

pub returns-then-copy-place : goal.returns-then-copy-place
returns-then-copy-place c = λ context trees.
    let r = c.in-Some-read_before.ensures.some context c.args.operators.now trees in
    let last = r.last_is in
    let ordered = r.tree.ordered in
    absurd (omega (arith, last, ordered, c.if-copy-place.true))

pub returns-then-not-has_number : goal.returns-then-not-has_number
returns-then-not-has_number c = λ context trees.
    no_bounded context c.args.operators.now c.args.at (λ start end h.
    false≢true (sym c.if-not-has_number.true ∙ c.has_number.ensures.1
    (number_before context c.args.operators.now c.args.at c.in-Some.place c.in-Some.count c.in-Some.ensures.some c.in-Some-read_before.copy
    (c.in-Some-read_before.ensures.some context c.args.operators.now trees) start end h)))

pub returns-in_default-settled_before : goal.returns-in_default-settled_before
returns-in_default-settled_before c = λ context trees.
    no_bounded context c.args.operators.now c.args.at (λ start end h.
    c.in_default-settled_before.ensures.none context c.args.operators.now trees start
    (index_before context c.args.operators.now c.args.at c.in-Some.place c.in-Some.count c.in-Some.ensures.some c.in-Some-read_before.copy
    (c.in-Some-read_before.ensures.some context c.args.operators.now trees) start end h))

pub returns-then-start-end : goal.returns-then-start-end
returns-then-start-end c = λ context trees.
    let r = (c.in-Some-settled_before.ensures.some context c.args.operators.now trees).read in
    let last = r.last_is in
    let ordered = r.tree.ordered in
    absurd (omega (arith, last, ordered, c.if-start-end.true))

pub returns-then-not-are_same : goal.returns-then-not-are_same
returns-then-not-are_same c = λ context trees.
    no_bounded context c.args.operators.now c.args.at (λ start end h.
    let r = c.in-Some-read_before.ensures.some context c.args.operators.now trees in
    let begins = one_read context c.args.operators.now start c.in-Some-settled_before.start (c.in-Some-read_before.copy - 1)
    (index_before context c.args.operators.now c.args.at c.in-Some.place c.in-Some.count c.in-Some.ensures.some c.in-Some-read_before.copy r start end h).read
    (c.in-Some-settled_before.ensures.some context c.args.operators.now trees).read in
    false≢true (sym c.if-not-are_same.true ∙ c.are_same.ensures.only
    (subst (λ k. HaveSameCode c.args.operators.now (k, c.in-Some-read_before.copy - 1) (c.in-Some-read_before.copy, c.in-Some.place)) begins
    (same_twice context c.args.operators.now c.args.at c.in-Some.place c.in-Some.count c.in-Some.ensures.some c.in-Some-read_before.copy r start end h))))

pub returns : goal.returns
returns c = λ context trees. (
  refl,
  is_bounded context c.args.operators.now c.args.at c.in-Some.place c.in-Some.count c.in-Some.ensures.some c.in-Some-settled_before.start
      (c.in-Some-read_before.copy - 1) c.in-Some-read_before.copy (omega (arith, c.if-copy-eq0.false)) c.if-copy-place.false
      (c.has_number.ensures.0 c.if-not-has_number.false) (c.in-Some-settled_before.ensures.some context c.args.operators.now trees)
      (c.are_same.ensures.same c.if-not-are_same.false),
)
