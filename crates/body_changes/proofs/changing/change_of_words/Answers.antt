-- From the change that the first word names on, and then before it.
use Rattle.std.proofs.Common.{ℕ, ◌%◌, length, ap, ◌∙◌, arith}
use Rattle.body_changes.specs.Body.{context_in_body, material_in, body_operators_in, ChangesSome, IsNumbered}
use Rattle.body_changes.specs.Chosen.{ChoosesChange}
use Rattle.body_changes.proofs.ChangingLemmas.{chosen_before, chosen_behind, none_all, on_none, on_some}
use Rattle.body_changes.proofs.changing.change_of_words.Goals as goal

pub returns-in-Some-clause-chosen : goal.returns-in-Some-clause-chosen
returns-in-Some-clause-chosen c =
    let none = c.if-operators-eq0.false in
    let named = c.named-first.ensures.is ∙ ap (λ (w : ℕ). w % length c.args.changes.now) c.word_at.ensures in
    chosen_behind c.args.body.now c.args.changes.now c.args.words.now (omega arith) c.named-first.result c.in-Some.changed named
    (rw c.in-Some.is at c.in_ok-changed.ensures.found)

pub returns-clause-chosen : goal.returns-clause-chosen
returns-clause-chosen c =
    let none = c.if-operators-eq0.false in
    let named = c.named-first.ensures.is ∙ ap (λ (w : ℕ). w % length c.args.changes.now) c.word_at.ensures in
    on_some c.any_within-2.result (IsNumbered c.args.body.now c.args.changes.now c.args.words.now 0 c.named-first.result)
    (λ made. ChoosesChange (context_in_body c.args.body.now) (body_operators_in c.args.body.now) (material_in c.args.body.now) c.args.changes.now
    c.args.words.now
    made.change made.at made.start made.code.items)
    (λ made numbered. chosen_before c.args.body.now c.args.changes.now c.args.words.now (omega arith) c.named-first.result made named
    (rw c.in_default.is at c.in_ok-changed.ensures.none) numbered) c.any_within-2.ensures.found

pub returns-clause-none : goal.returns-clause-none
returns-clause-none c =
    on_none c.any_within-2.result (λ before k l. none_all (ChangesSome c.args.body.now c.args.changes.now c.args.words.now) c.named-first.result
    (length c.args.changes.now) (rw c.in_default.is at c.in_ok-changed.ensures.none) before k (omega arith) l) c.any_within-2.ensures.none
