use Rattle.std.proofs.Common.{◌≡◌, map, take}
use Rattle.peephole_lang.specs.Node.{node_of}
use Rattle.peephole_graphs.specs.declared.dfg.StackEntry.{StackEntry}
use Rattle.peephole_graphs.specs.Span.{node_from}
use Rattle.peephole_graphs.proofs.span.copy_span.Given as goal

abbrev pub invariant-loop-entry : goal.invariant-loop-entry
invariant-loop-entry l = map node_of l.expr ≡ map (λ (e : StackEntry). node_from l.start (node_of e.operator)) (take l.entry-index l.entries)
