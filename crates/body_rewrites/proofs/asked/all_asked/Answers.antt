-- Row by row.
use Rattle.std.proofs.Common.{arith}
use Rattle.body_rewrites.proofs.AskingLemmas.{numbered_next}
use Rattle.body_rewrites.proofs.asked.all_asked.Goals as goal

pub loop-number-preserved : goal.loop-number-preserved
loop-number-preserved c =
    numbered_next c.loop-number.number c.loop-number.list.items c.add_numbered.new.list.items (omega arith) c.loop-number.invariant
    c.in_ok-add_numbered.ensures
