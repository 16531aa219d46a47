-- A constant that isn't the operator.
use Rattle.std.proofs.Common.{[], ◌∷◌, refl}
use Rattle.body_changes.specs.Proposals.{context_at, operators_of}
use Rattle.body_changes.proofs.ConstantLemmas.{constants_plain}
use Rattle.body_changes.proofs.NumberLemmas.{new_constant}
use Rattle.body_changes.proofs.kinds.drawn.value_instead.Goals as goal

pub returns-clause-made : goal.returns-clause-made
returns-clause-made c = λ most some.
    let type = rw c.in-Some.is at c.number_type.ensures.some in
    record {
      type = c.in-Some.t;
      gives = type.0;
      number = type.1;
      few = some;
      plain = constants_plain c.in-Some.t c.distinct.result (c.distinct.result ∷ []) c.distinct.ensures.row refl;
    }

pub returns-clause-new : goal.returns-clause-new
returns-clause-new c =
    let place = c.args.place.now in
    let type = rw c.in-Some.is at c.number_type.ensures.some in
    new_constant (context_at place) (operators_of place) place.at place.unit c.in-Some.t c.requires.is type.0 type.1 c.in-Some-instr_at.own
    (rw c.in-Some-instr_at.is at c.instr_at.ensures.some) c.distinct.result (c.distinct.result ∷ []) c.distinct.ensures.typed c.distinct.ensures.differs refl
