use Rattle.peephole_graphs.proofs.dfg.MiniDFG.entries.Goals as goal

pub returns : goal.returns
returns c = c.as_slice.ensures.value
