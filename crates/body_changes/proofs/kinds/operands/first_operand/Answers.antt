-- The first operand stands there.
use Rattle.body_changes.specs.Kinds.{MakesFirst, Stand}
use Rattle.body_changes.specs.Proposals.{operators_of}
use Rattle.body_changes.proofs.PartLemmas.{ok_some_then}
use Rattle.body_changes.proofs.kinds.operands.first_operand.Goals as goal

pub returns-clause-made : goal.returns-clause-made
returns-clause-made c =
    let place = c.args.place.now in
    let (first, last, taken, given) = c.gives_first.ensures.0 c.if-not-gives_first.false in
    ok_some_then c.instrs_of.result (λ code. Stand (operators_of place) place.unit.start place.unit.last code.items)
    (λ code. MakesFirst (operators_of place) place.unit code.items) c.instrs_of.ensures.some
    (λ code stands. record { first = first; last = last; takes = taken; gives = given; stand = stands })
