-- The operands are compared.
use Rattle.body_changes.proofs.NewLemmas.{exchange_decided}
use Rattle.body_changes.proofs.kinds.operands.exchange_is_new.Goals as goal

pub returns : goal.returns
returns c =
    let (type, taken) = c.takes_twins.ensures.0 c.if-not-takes_twins.false in
    exchange_decided c.args.place.now c.requires type taken c.are_alike.result c.are_alike.ensures
