use Rattle.peephole_graphs.proofs.dfg.MiniDFG.keeps_order.Goals as goal

pub returns : goal.returns
returns c = rw c.lies_forward.ensures c.args.self.now.lies
