-- The other operator is new, or there is none.
use Rattle.body_changes.specs.Proposals.{context_at, operators_of}
use Rattle.body_changes.proofs.OperatorLemmas.{made_operator, named_operator, no_operator}
use Rattle.body_changes.proofs.kinds.operators.operator_instead.Goals as goal

pub returns-in_default-other_on-clause-none : goal.returns-in_default-other_on-clause-none
returns-in_default-other_on-clause-none c =
    let place = c.args.place.now in
    no_operator (context_at place) (operators_of place) place.at place.unit c.in-Some.own (rw c.in-Some.is at c.instr_at.ensures.some)
    (rw c.in_default-other_on.is at c.other_on.ensures.none)

pub returns-clause-new : goal.returns-clause-new
returns-clause-new c =
    let place = c.args.place.now in
    made_operator (context_at place) (operators_of place) place.at place.unit c.requires.is c.in-Some.own c.in-Some-other_on.other
    (rw c.in-Some.is at c.instr_at.ensures.some) (rw c.in-Some-other_on.is at c.other_on.ensures.taken)
    (rw c.in-Some-other_on.is at c.other_on.ensures.some)

pub returns-clause-named : goal.returns-clause-named
returns-clause-named c =
    let place = c.args.place.now in
    named_operator (context_at place) (operators_of place) place.at place.unit c.in-Some.own c.in-Some-other_on.other c.other_on.result
    c.word_at.result c.args.words.now (rw c.in-Some.is at c.instr_at.ensures.some) c.in-Some-other_on.is c.word_at.ensures c.other_on.ensures.named
