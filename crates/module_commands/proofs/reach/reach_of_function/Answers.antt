-- The numbers of a function, or none where it can't be read.
use Rattle.std.proofs.lemmas.Result.{IfOk-weaker}
use Rattle.wasm_execution.specs.Values.{context_in}
use Rattle.module_commands.specs.Reach.{AreOfBody, AreOfEntry, ToldReach}
use Rattle.module_commands.proofs.ReachLemmas.{told_read, told_unread}
use Rattle.module_commands.proofs.reach.reach_of_function.Goals as goal

pub returns-in-Err-clause-reach : goal.returns-in-Err-clause-reach
returns-in-Err-clause-reach c =
    told_unread c.args.scope.now c.args.bytes.now c.args.info.now c.args.layout.now c.args.n c.nothing.result (λ l x o f.
    let memory = c.is_memory.ensures.1 (c.in-Err.ensures.only l x o f) in
    let other = c.if-is_memory.false in
    absurd cc) c.nothing.ensures

pub returns-clause-reach : goal.returns-clause-reach
returns-clause-reach c =
    IfOk-weaker c.reach_of_body.result (ToldReach (AreOfBody (context_in c.args.info.now c.deref.result.now) c.args.scope.now c.deref-2.result.now))
    (ToldReach (AreOfEntry c.args.scope.now c.args.bytes.now c.args.info.now c.args.layout.now c.args.n)) (λ reach t.
    told_read c.args.scope.now c.args.bytes.now c.args.info.now c.args.layout.now c.args.n c.in-Ok.function.locals.items c.deref.result.now
    c.in-Ok.function.expression c.in-Ok.function.operators.items c.deref-2.result.now reach c.deref.ensures.value c.deref-2.ensures.value
    c.in-Ok.ensures.read c.in-Ok.ensures.only t) c.reach_of_body.ensures.reach
