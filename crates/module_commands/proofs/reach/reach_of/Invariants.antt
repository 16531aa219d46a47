-- The numbers of the functions so far.
use Rattle.module_commands.specs.Reach.{AreOfEntries, ToldReach}
use Rattle.module_commands.proofs.reach.reach_of.Given as goal

abbrev pub invariant-loop-n : goal.invariant-loop-n
invariant-loop-n l = ToldReach (AreOfEntries l.scope l.bytes l.info l.layout l.n) l.reach
