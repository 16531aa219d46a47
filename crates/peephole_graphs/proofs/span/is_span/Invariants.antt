use Rattle.peephole_graphs.specs.Measures.{sizes_kept}
use Rattle.peephole_graphs.specs.Span.{IsSpan}
use Rattle.peephole_graphs.proofs.span.is_span.Given as goal

abbrev pub invariant-loop-i : goal.invariant-loop-i
invariant-loop-i l = IsSpan l.entries (sizes_kept l.subtrees) l.start l.i
