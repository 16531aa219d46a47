use Rattle.std.proofs.Common.{◌≤◌, ◌-◌, ◌^◌, map, length}
use Rattle.std.specs.Prelude.{reverse}
use Rattle.peephole_lang.specs.Term.{numbers_of}
use Rattle.peephole_graphs.specs.Rebuild.{CanAnswer, piece_by}
use Rattle.peephole_graphs.proofs.terms.NodeRequests.{HasRequests}
use Rattle.peephole_graphs.proofs.rebuild.ask_tree.Given as goal

abbrev pub invariant-loop-id : goal.invariant-loop-id
invariant-loop-id g l =
    HasRequests (CanAnswer g.L.Language.head g.L.Language.children (goal.F-post g l.id_to_lang)) l.fn.root.0 (numbers_of l.ids.items)
    (reverse (map (λ n. piece_by g.L.Language.head g.L.Language.children n.now) l.nodes.items)) × (length l.nodes.items ≤ 2 ^ 32)

abbrev pub decreases-loop-id : goal.decreases-loop-id
decreases-loop-id g l = 2 ^ 32 - length l.nodes.items
