use Rattle.std.proofs.Common.{arith, ap}
use Rattle.std.proofs.lemmas.Grind.{common_steps}
use Rattle.peephole_lang.specs.Term.{numbers_of}
use Rattle.peephole_graphs.proofs.DfgLemmas.{kept_count, forwards_read}
use Rattle.peephole_graphs.proofs.dfg.MiniDFG.lies_forward_at.Goals as goal

pub index-requires : goal.index-requires
index-requires c = let e = kept_count _ _ c.args.self.now.measured in grind (arith, common_steps)

pub slice_bounds-lie_one_behind_another-end-2 : goal.slice_bounds-lie_one_behind_another-end-2
slice_bounds-lie_one_behind_another-end-2 c = let e = kept_count _ _ c.args.self.now.measured in grind (arith, common_steps)

pub returns : goal.returns
returns c = forwards_read c.args.self.now.entries.items c.args.self.now.subtrees.items c.args.self.now.measured c.args.i c.requires
    c.index-2.result.now c.index-2.ensures c.index.result.now c.index.ensures _ c.saturating_sub-from.ensures c.lie_one_behind_another.result
    (rw (c.deref.ensures.value, c.deref-2.ensures.value, ap numbers_of c.children-ids.ensures.value) at c.lie_one_behind_another.ensures)
