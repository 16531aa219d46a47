use Rattle.std.proofs.Common.{◌≤◌, ◌+◌}
use Rattle.peephole_graphs.specs.Block.{HasNoDelimiter}
use Rattle.peephole_graphs.proofs.block.block_start.Given as goal

abbrev pub invariant-loop-start : goal.invariant-loop-start
invariant-loop-start l = (l.start ≤ l.index + 1) × HasNoDelimiter l.operators l.start (l.index + 1)

abbrev pub decreases-loop-start : goal.decreases-loop-start
decreases-loop-start l = l.start
