use Rattle.peephole_graphs.proofs.dfg.MiniDFG.parents.Goals as goal

pub returns-clause-value : goal.returns-clause-value
returns-clause-value c = c.as_slice.ensures.value
