use Rattle.std.proofs.Common.{map}
use Rattle.peephole_lang.specs.Node.{node_of}
use Rattle.peephole_lang.specs.Term.{numbers_of}
use Rattle.peephole_graphs.specs.Layout.{entry_nodes}
use Rattle.peephole_graphs.proofs.graph.LayoutTrees.{missing}
use Rattle.peephole_graphs.proofs.terms.LayoutWalk.{IsWalk, layout_state, measure}
use Rattle.peephole_graphs.proofs.layout.lay_out.Given as goal

abbrev pub invariant-loop-turn : goal.invariant-loop-turn
invariant-loop-turn l =
    IsWalk missing (entry_nodes l.entries) l.root l.walk (layout_state (map node_of l.expr) (numbers_of l.finished.items))

abbrev pub decreases-loop-turn : goal.decreases-loop-turn
decreases-loop-turn l = measure missing (entry_nodes l.entries) l.walk
