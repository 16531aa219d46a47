use Rattle.peephole_graphs.proofs.text.ForestWalk.{as_nodes_below, said_text}
use Rattle.peephole_graphs.proofs.dfg.MiniDFG.pretty_print.Goals as goal

pub print_forest-requires-clause-below : goal.print_forest-requires-clause-below
print_forest-requires-clause-below g c = rw c.deref.ensures.value (as_nodes_below c.args.self.now.entries.items c.args.self.now.trees.below)

pub returns-clause-told : goal.returns-clause-told
returns-clause-told g c = said_text g.F.Fn c.args.f c.args.self.now.entries.items c.args.self.now.parents.items c.print_forest.result
    (rw (c.deref.ensures.value, c.deref-2.ensures.value) at c.print_forest.ensures)
