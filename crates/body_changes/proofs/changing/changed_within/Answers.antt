-- None of those before it.
use Rattle.std.proofs.Common.{ℕ, sym, subst, arith}
use Rattle.body_changes.specs.Body.{ChangesIn}
use Rattle.body_changes.specs.Chosen.{NoneWithin}
use Rattle.body_changes.proofs.ChangingLemmas.{none_more, none_to}
use Rattle.body_changes.proofs.changing.changed_within.Goals as goal

pub returns-in-Some-clause-found : goal.returns-in-Some-clause-found
returns-in-Some-clause-found c =
    let found = rw c.in-Some.is at c.in_ok-changed.ensures.found in
    let at = found.0 in
    let from = c.loop-at.auto.at in
    let to = c.loop-at-test.true in (
      omega arith,
      omega arith,
      found.1,
      found.2,
      subst (λ (k : ℕ). NoneWithin (ChangesIn c.args.body.now c.args.words.now c.args.change) c.args.range.start k) (sym at) c.loop-at.invariant,
    )

pub loop-at-preserved : goal.loop-at-preserved
loop-at-preserved c =
    none_more (ChangesIn c.args.body.now c.args.words.now c.args.change) c.args.range.start c.loop-at.at c.loop-at.invariant
    (rw c.in_default.is at c.in_ok-changed.ensures.none)

pub returns-clause-none : goal.returns-clause-none
returns-clause-none c =
    none_to (ChangesIn c.args.body.now c.args.words.now c.args.change) c.args.range.start c.loop-at.at c.args.range.end c.loop-at.invariant
    c.loop-at-test.false
