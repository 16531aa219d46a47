use Rattle.std.proofs.Common.{◌++◌, ap, ◌∙◌, string_bytes}
use Rattle.peephole_graphs.proofs.text.ForestWalk.{edge_added}
use Rattle.peephole_graphs.proofs.forest_text.write_edges.Goals as goal

pub loop-ids-preserved : goal.loop-ids-preserved
loop-ids-preserved c =
    edge_added c.args.levels.now c.loop-ids.ids-index _ _ _ _ c.loop-ids-test.true c.loop-ids.invariant
    (c.in_ok-push_str.ensures.bytes ∙ ap (λ x. string_bytes c.loop-ids.text ++ x) c.edge.ensures)
