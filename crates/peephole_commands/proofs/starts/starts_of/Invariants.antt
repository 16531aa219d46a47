use Rattle.std.proofs.Common.{◌≡◌, ◌≤◌, ◌<◌, ◌+◌, ◌*◌, length}
use Rattle.peephole_graphs.specs.Block.{block_start}
use Rattle.peephole_commands.specs.Starts.{AreStarts}
use Rattle.peephole_commands.proofs.starts.starts_of.Given as goal

abbrev pub invariant-loop-index : goal.invariant-loop-index
invariant-loop-index l =
    AreStarts l.operators l.starts.items × (l.index ≤ 16 * length l.starts.items) × (16 * length l.starts.items < l.index + 16)
    × (l.start ≡ block_start l.operators l.index)
