use Rattle.std.proofs.Common.{take}
use Rattle.std.specs.Io.KnownBytes.{Appends}
use Rattle.module_commands.specs.Changes.{summary_lines}
use Rattle.module_commands.proofs.changes.write_lines.Given as goal

abbrev pub invariant-loop-change : goal.invariant-loop-change
invariant-loop-change g l =
    Appends (g.W.Write.contents l.initial.output) (g.W.Write.contents l.output) (summary_lines l.form (take l.change-index l.changes))
