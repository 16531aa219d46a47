use Rattle.std.proofs.Common.{◌+◌, ◌&&◌, ◌∙◌, sym, ap₂}
use Rattle.peephole_graphs.proofs.DfgLemmas.{forwards_stop}
use Rattle.peephole_graphs.proofs.dfg.MiniDFG.lies_forward.Goals as goal

pub returns-then-not-lies_forward_at : goal.returns-then-not-lies_forward_at
returns-then-not-lies_forward_at c = sym (forwards_stop c.args.self.now.entries.items (c.loop-i.i + 1)
    (c.lies_forward_at.ensures ∙ ap₂ (λ a b. a && b) c.loop-i.invariant c.if-not-lies_forward_at.true))
