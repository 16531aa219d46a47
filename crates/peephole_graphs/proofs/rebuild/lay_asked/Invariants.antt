use Rattle.std.proofs.Common.{◌≡◌, ◌+◌, length}
use Rattle.peephole_graphs.specs.Layout.{IsWhole}
use Rattle.peephole_graphs.specs.Rebuild.{AreNodesOfTree}
use Rattle.peephole_graphs.proofs.terms.NodeRequests.{pieces_of}
use Rattle.peephole_graphs.proofs.terms.LayoutWalk.{LeadsTo}
use Rattle.peephole_graphs.proofs.terms.RebuildLayout.{now_laid}
use Rattle.peephole_graphs.proofs.rebuild.lay_asked.Given as goal

abbrev pub invariant-loop-node : goal.invariant-loop-node
invariant-loop-node g l =
    ((t : _) → IsWhole t → AreNodesOfTree g.L.Language.head g.L.Language.children l.fn.asked.items t → LeadsTo t
    (pieces_of g.L.Language.head g.L.Language.children l.asked.items) (now_laid g.L.Language.head g.L.Language.children l.expr l.finished.items))
    × (length l.expr + length l.asked.items ≡ length l.fn.asked.items)

abbrev pub decreases-loop-node : goal.decreases-loop-node
decreases-loop-node g l = length l.asked.items
