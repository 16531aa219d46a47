-- One instruction stands there.
use Rattle.body_rewrites.proofs.OwnAccessLemmas.{no_immediate}
use Rattle.body_rewrites.proofs.own.access.immediate_at.Goals as goal

pub returns-clause-none : goal.returns-clause-none
returns-clause-none c =
    no_immediate c.args.operators.now c.args.at c.args.row c.in_ok-instr.instr c.immediate_in.result c.in_ok-instr.ensures.some c.immediate_in.ensures.none
