-- None so far is a delimiter.
use Rattle.std.proofs.Common.{◌≤◌, ◌+◌}
use Rattle.module_commands.specs.Blocks.{HasNoDelimiter}
use Rattle.module_commands.proofs.blocks.block_start.Given as goal

abbrev pub invariant-loop-start : goal.invariant-loop-start
invariant-loop-start l = (l.start ≤ l.last + 1) × HasNoDelimiter l.operators l.start (l.last + 1)

abbrev pub decreases-loop-start : goal.decreases-loop-start
decreases-loop-start l = l.start
