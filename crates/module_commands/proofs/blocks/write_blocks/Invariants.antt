use Rattle.std.proofs.Common.{ℕ, List}
use Rattle.std.specs.Io.KnownBytes.{Appends}
use Rattle.module_commands.specs.Blocks.{TellsBlock}
use Rattle.module_commands.specs.Lists.{InTurn}
use Rattle.module_commands.proofs.blocks.write_blocks.Given as goal

abbrev pub invariant-loop-last : goal.invariant-loop-last
invariant-loop-last g l =
    (text : List ℕ) × Appends (g.W.Write.contents l.initial.output) (g.W.Write.contents l.output) text
    × InTurn (TellsBlock l.form l.function l.operators) 0 l.last text
