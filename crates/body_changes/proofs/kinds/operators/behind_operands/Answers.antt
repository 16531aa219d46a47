-- Instructions stand before the operator.
use Rattle.body_changes.specs.Proposals.{context_at, operators_of}
use Rattle.wasm_execution.specs.Row.{list_of}
use Rattle.body_changes.proofs.PartLemmas.{front_stands}
use Rattle.body_changes.proofs.kinds.operators.behind_operands.Goals as goal

pub returns-in_default-clause-some : goal.returns-in_default-clause-some
returns-in_default-clause-some c =
    let place = c.args.place.now in
    let (front, stand) = front_stands (context_at place) (operators_of place) place.unit.start place.at (list_of place.unit.gives)
    c.requires.is.is.closed in
    absurd (rw c.in_default.is at c.in_ok-code.ensures.none front stand)
