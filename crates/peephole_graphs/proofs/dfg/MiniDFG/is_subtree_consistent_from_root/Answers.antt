use Rattle.std.proofs.Common.{◌≡◌, arith, length}
use Rattle.std.proofs.lemmas.Grind.{common_steps}
use Rattle.peephole_graphs.specs.Dfg.{graph_of}
use Rattle.peephole_graphs.proofs.dfg.MiniDFG.is_subtree_consistent_from_root.Goals as goal

pub returns : goal.returns
returns c =
    let es = (graph_of c.args.self.now).entries in
    let counted : c.len.result ≡ length es = grind (arith, common_steps) in
    rw counted at c.is_subtree_consistent.ensures
