-- The trees of the operators so far.
use Rattle.wasm_execution.specs.Values.{context_in}
use Rattle.body_rewrites.specs.Open.{AreOpen, AreTreesBefore}
use Rattle.body_rewrites.proofs.trees.trees_of.Given as goal

abbrev pub invariant-loop-at : goal.invariant-loop-at
invariant-loop-at l =
    AreOpen (context_in l.info l.locals) l.operators l.at l.open × AreTreesBefore (context_in l.info l.locals) l.operators l.at l.trees.items
