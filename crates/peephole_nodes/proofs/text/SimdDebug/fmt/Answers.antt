use Rattle.peephole_nodes.proofs.text.SimdDebug.fmt.Goals as goal

pub returns : goal.returns
returns c c' = record { writes = c'.fmt.ensures.writes }
