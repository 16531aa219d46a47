use Rattle.std.proofs.Common.{arith}
use Rattle.std.proofs.lemmas.Grind.{common_steps}
use Rattle.peephole_graphs.specs.Measures.{flags_kept}
use Rattle.peephole_graphs.proofs.DfgLemmas.{kept_count, kept_flag, one_color}
use Rattle.peephole_graphs.proofs.dfg.MiniDFG.is_subtree_consistent.Goals as goal

pub index-requires : goal.index-requires
index-requires c = let e = kept_count _ _ c.args.self.now.measured in
    grind (arith, common_steps)

pub returns : goal.returns
returns c = one_color c.args.self.now.entries.items (flags_kept c.args.self.now.subtrees.items) c.args.self.now.measured.flags_are c.args.i
    c.requires c.index.result.now.one_color (kept_flag c.args.self.now.subtrees.items c.args.i c.index.result.now c.index.ensures)
