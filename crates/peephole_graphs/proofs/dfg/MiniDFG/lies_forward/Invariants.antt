use Rattle.std.proofs.Common.{◌≡◌, take, true}
use Rattle.peephole_graphs.specs.Measures.{forwards}
use Rattle.peephole_graphs.specs.Entries.{kins_of}
use Rattle.peephole_graphs.proofs.dfg.MiniDFG.lies_forward.Given as goal

abbrev pub invariant-loop-i : goal.invariant-loop-i
invariant-loop-i l = forwards (kins_of (take l.i l.self.entries.items)) ≡ true
