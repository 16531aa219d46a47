use Rattle.std.proofs.Common.{get_or, rules}
use Rattle.peephole_graphs.specs.Dfg.{graph_of}
use Rattle.peephole_graphs.proofs.text.ForestWalk.{by_operator, default_told, told}
use Rattle.peephole_graphs.proofs.dfg.MiniDFG.pretty_print_default.Goals as goal

pub returns : goal.returns
returns c = default_told (graph_of c.args.self.now).entries (graph_of c.args.self.now).parents c.pretty_print.result
    (c.pretty_print.ensures.told by_operator (λ k d l r h. told (get_or (graph_of c.args.self.now).entries k d) h.shown.now r h.shows
    (search (rules, h.says.met))))
