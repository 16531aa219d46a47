use Rattle.std.proofs.Common.{take}
use Rattle.peephole_graphs.proofs.BuilderLemmas.{Kept}
use Rattle.peephole_graphs.proofs.builder.build.Given as goal

abbrev pub invariant-loop-number : goal.invariant-loop-number
invariant-loop-number l = Kept (record { info = l.info; preserving = l.preserving; first = l.first; operators = take l.number l.operators }) l.growing
