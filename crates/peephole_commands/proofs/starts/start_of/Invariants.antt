use Rattle.std.proofs.Common.{◌≡◌, ◌≤◌}
use Rattle.peephole_graphs.specs.Block.{block_start}
use Rattle.peephole_commands.proofs.starts.start_of.Given as goal

abbrev pub invariant-loop-index : goal.invariant-loop-index
invariant-loop-index l = (l.index ≤ l.point) × (block_start l.operators l.index ≡ block_start l.operators l.point)

abbrev pub decreases-loop-index : goal.decreases-loop-index
decreases-loop-index l = l.index
