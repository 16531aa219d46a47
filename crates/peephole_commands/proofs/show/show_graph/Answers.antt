use Rattle.std.specs.Prelude.{string_bytes}
use Rattle.peephole_commands.proofs.Shows.{shown_is, shown_by}
use Rattle.peephole_commands.proofs.show.show_graph.Goals as goal

pub returns : goal.returns
returns c =
    let laws = c.graph_shows_the_forest.ensures in
    shown_by c.args.graph.now string_bytes _
    (λ info preserving p place g. shown_is c.faults_are_found.ensures.none c.order_is_decided.ensures laws.text laws.order laws.color info
    preserving p c.args.graph.now c.keeps_order-in_order.result c.is_subtree_consistent_from_root-consistent.result place g
    c.keeps_order-in_order.ensures c.is_subtree_consistent_from_root-consistent.ensures)
    c.with_verdicts.result c.with_verdicts.ensures
