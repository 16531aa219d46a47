use Rattle.std.proofs.Common.{arith, ◌∙◌}
use Rattle.std.proofs.lemmas.Grind.{common_steps}
use Rattle.peephole_graphs.specs.Measures.{sizes_kept}
use Rattle.peephole_graphs.proofs.DfgLemmas.{kept_count, kept_size, size_read}
use Rattle.peephole_graphs.proofs.dfg.MiniDFG.subtree_len.Goals as goal

pub index-requires : goal.index-requires
index-requires c = let e = kept_count _ _ c.args.self.now.measured in
    grind (arith, common_steps)

pub returns : goal.returns
returns c = kept_size c.args.self.now.subtrees.items c.args.i c.index.result.now c.index.ensures
    ∙ size_read c.args.self.now.entries.items (sizes_kept c.args.self.now.subtrees.items) c.args.self.now.measured.sizes_are
    c.args.i c.requires c.index.result.now.len
