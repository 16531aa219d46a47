use Rattle.std.proofs.Common.{take}
use Rattle.std.specs.Io.KnownBytes.{Appends}
use Rattle.module_commands.specs.Changing.{change_lines}
use Rattle.module_commands.proofs.change_report.write_made.Given as goal

abbrev pub invariant-loop-one : goal.invariant-loop-one
invariant-loop-one g l = Appends (g.W.Write.contents l.initial.notes) (g.W.Write.contents l.notes) (change_lines l.form (take l.one-index l.made))
