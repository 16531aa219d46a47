-- One instruction stands there.
use Rattle.body_rewrites.proofs.OwnFindLemmas.{no_index}
use Rattle.body_rewrites.proofs.instructions.index_at.Goals as goal

pub returns-clause-none : goal.returns-clause-none
returns-clause-none c =
    no_index c.args.operators.now c.args.at c.args.row c.in_ok-instr.instr c.index_in.result c.in_ok-instr.ensures.some c.index_in.ensures.none
