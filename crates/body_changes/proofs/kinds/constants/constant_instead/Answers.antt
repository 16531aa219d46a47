-- Another constant of the type stands there, and is the one that words name.
use Rattle.std.proofs.Common.{[], ◌∷◌, refl}
use Rattle.body_changes.specs.Proposals.{context_at, operators_of}
use Rattle.body_changes.proofs.NumberLemmas.{constant_of_row, named_constant, new_constant}
use Rattle.body_changes.proofs.kinds.constants.constant_instead.Goals as goal

pub returns-clause-new : goal.returns-clause-new
returns-clause-new c =
    let place = c.args.place.now in
    let type = rw c.in-Some.is at c.number_type.ensures.some in
    let other = c.other_than.result in
    new_constant (context_at place) (operators_of place) place.at place.unit c.in-Some.t c.requires.is type.0 type.1 c.in-Some-instr_at.own
    (rw c.in-Some-instr_at.is at c.instr_at.ensures.some) other (other ∷ [])
    (constant_of_row c.in-Some.t other type.1 c.other_than.ensures.instruction c.other_than.ensures.row) c.other_than.ensures.differs refl

pub returns-clause-named : goal.returns-clause-named
returns-clause-named c = λ code makes new names.
    let place = c.args.place.now in
    let type = rw c.in-Some.is at c.number_type.ensures.some in
    let other = c.other_than.result in
    named_constant (context_at place) (operators_of place) place.at place.unit c.in-Some.t c.requires.is type.0 type.1 c.in-Some-instr_at.own
    (rw c.in-Some-instr_at.is at c.instr_at.ensures.some) c.first_words.result c.drawn_constant-drawn.result other c.args.words.now (other ∷ [])
    code c.first_words.ensures c.drawn_constant-drawn.ensures.own c.other_than.ensures.drawn refl makes new names
