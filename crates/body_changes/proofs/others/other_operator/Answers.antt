-- The one that was found, or that there is none.
use Rattle.std.proofs.Common.{sym, ◌∙◌}
use Rattle.body_changes.specs.declared.others.Asked.{Asked}
use Rattle.body_changes.proofs.OthersLemmas.{no_other, other_is, other_named}
use Rattle.body_changes.proofs.others.other_operator.Goals as goal

pub returns-then-count-eq0-clause-none : goal.returns-then-count-eq0-clause-none
returns-then-count-eq0-clause-none c =
    let asked : Asked = record { scope = c.args.scope.now; own = c.row.result; operands = c.args.operands; gives = c.in_ok-gives.gives } in
    no_other asked c.args.instr.now (sym c.row.ensures.row) (sym c.told_types.ensures ∙ c.in_ok-gives.was)
    (sym c.count_others-count.ensures ∙ c.if-count-eq0.true)

pub returns-clause-some : goal.returns-clause-some
returns-clause-some c =
    let asked : Asked = record { scope = c.args.scope.now; own = c.row.result; operands = c.args.operands; gives = c.in_ok-gives.gives } in
    let found = rw c.in-Some-other_with.is at c.other_with.ensures.some in
    other_is asked c.args.instr.now c.in-Some-other_with.other (sym c.row.ensures.row) found.0 found.1 found.2
    (c.are_told_apart.ensures.0 c.if-not-are_told_apart.false) (sym c.told_types.ensures ∙ c.in_ok-gives.was)

pub returns-in-Some-clause-some : goal.returns-in-Some-clause-some
returns-in-Some-clause-some c =
    let asked : Asked = record { scope = c.args.scope.now; own = c.row.result; operands = c.args.operands; gives = c.in_ok-gives.gives } in
    let found = rw c.in-Some.is at c.other_of_word.ensures.some in
    other_is asked c.args.instr.now c.in-Some.other (sym c.row.ensures.row) found.0 found.1 found.2
    (c.are_told_apart.ensures.0 c.if-not-are_told_apart.false) (sym c.told_types.ensures ∙ c.in_ok-gives.was)

pub returns-in-Some-clause-named : goal.returns-in-Some-clause-named
returns-in-Some-clause-named c = λ other is e.
    let asked : Asked = record { scope = c.args.scope.now; own = c.row.result; operands = c.args.operands; gives = c.in_ok-gives.gives } in
    sym c.in-Some.is ∙ other_named asked c.args.instr.now c.other_of_word.result c.args.word (sym c.row.ensures.row)
    (sym c.told_types.ensures ∙ c.in_ok-gives.was) c.other_of_word.ensures.named other is e

pub returns-then-count-eq0-clause-named : goal.returns-then-count-eq0-clause-named
returns-then-count-eq0-clause-named c = λ other is e.
    let asked : Asked = record { scope = c.args.scope.now; own = c.row.result; operands = c.args.operands; gives = c.in_ok-gives.gives } in
    sym c.in_default.is ∙ other_named asked c.args.instr.now c.other_of_word.result c.args.word (sym c.row.ensures.row)
    (sym c.told_types.ensures ∙ c.in_ok-gives.was) c.other_of_word.ensures.named other is e

pub returns-clause-named : goal.returns-clause-named
returns-clause-named c = λ other is e.
    let asked : Asked = record { scope = c.args.scope.now; own = c.row.result; operands = c.args.operands; gives = c.in_ok-gives.gives } in
    absurd (c.in_default.not-Some other (other_named asked c.args.instr.now c.other_of_word.result c.args.word (sym c.row.ensures.row)
    (sym c.told_types.ensures ∙ c.in_ok-gives.was) c.other_of_word.ensures.named other is e))
