-- One more instruction.
use Rattle.body_changes.proofs.OwnLemmas.{one_more, no_instructions}
use Rattle.body_changes.proofs.own.instrs_of.Goals as goal

pub returns-in-None-clause-none : goal.returns-in-None-clause-none
returns-in-None-clause-none c = λ code h.
    no_instructions c.args.operators.now c.loop-i.i code c.loop-i-test.true (rw c.in-None.is at c.instr_at.ensures.none) h

pub loop-i-preserved : goal.loop-i-preserved
loop-i-preserved c =
    one_more c.args.operators.now c.loop-i.i c.in-Some.instr c.loop-i.code.items c.push.new.self.items (rw c.in-Some.is at c.instr_at.ensures.some)
    c.loop-i.invariant c.in_ok-push-in-Some.ensures.items
