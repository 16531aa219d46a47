-- The first change that makes anything.
use Rattle.std.proofs.Common.{ℕ, ◌%◌, length, ap, ◌∙◌}
use Rattle.body_changes.specs.Body.{body_operators_in, ChangesSome}
use Rattle.body_changes.proofs.ChangingLemmas.{none_more, none_to, number_never, numbered}
use Rattle.body_changes.proofs.changing.any_within.Goals as goal

pub returns-in-Some-clause-found : goal.returns-in-Some-clause-found
returns-in-Some-clause-found c =
    let found = rw c.in-Some.is at c.in_ok-changed.ensures.found in
    numbered c.args.body.now c.args.changes.now c.args.words.now c.words_from-rest.result.now c.args.range.start c.args.range.end c.loop-number.number
    c.named-from.result c.change_with-change.result c.in-Some.changed c.words_from-rest.ensures
    (c.named-from.ensures.is ∙ ap (λ (w : ℕ). w % length (body_operators_in c.args.body.now)) c.word_at.ensures)
    c.loop-number.auto.number c.loop-number-test.true
    c.change_with-change.ensures c.loop-number.invariant found.0 found.1 found.2

pub loop-number-preserved : goal.loop-number-preserved
loop-number-preserved c =
    none_more (ChangesSome c.args.body.now c.args.changes.now c.args.words.now) c.args.range.start c.loop-number.number c.loop-number.invariant
    (number_never c.args.body.now c.args.changes.now c.args.words.now c.words_from-rest.result.now c.loop-number.number c.change_with-change.result
    c.words_from-rest.ensures c.change_with-change.ensures (rw c.in_default.is at c.in_ok-changed.ensures.none))

pub returns-clause-none : goal.returns-clause-none
returns-clause-none c =
    none_to (ChangesSome c.args.body.now c.args.changes.now c.args.words.now) c.args.range.start c.loop-number.number c.args.range.end
    c.loop-number.invariant c.loop-number-test.false
