-- What the operators so far count.
use Rattle.std.specs.Prelude.{◌↔◌, IsTrue}
use Rattle.body_rewrites.specs.Reached.{OperatorIsMarked}
use Rattle.module_commands.specs.Reach.{AreCounted, HoldsReached, ToldReach}
use Rattle.module_commands.proofs.reach.reach_of_marked.Given as goal

abbrev pub invariant-loop-at : goal.invariant-loop-at
invariant-loop-at l =
    (IsTrue l.held ↔ HoldsReached (OperatorIsMarked l.marks) l.operators l.at) × ToldReach (AreCounted (OperatorIsMarked l.marks) l.operators l.at) l.reach
