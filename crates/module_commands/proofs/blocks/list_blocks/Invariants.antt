use Rattle.std.proofs.Common.{ℕ, ◌-◌, List}
use Rattle.std.specs.Io.KnownBytes.{Appends}
use Rattle.module_commands.specs.Blocks.{TellsBlocks}
use Rattle.module_commands.specs.Lists.{InTurn}
use Rattle.module_commands.proofs.blocks.list_blocks.Given as goal

abbrev pub invariant-loop-n : goal.invariant-loop-n
invariant-loop-n g l =
    (text : List ℕ) × Appends (g.W.Write.contents l.initial.output) (g.W.Write.contents l.output) text
    × InTurn (TellsBlocks l.form l.bytes l.module.info l.module.layout) l.from (l.n - l.from) text
