use Rattle.std.proofs.Common.{take}
use Rattle.std.specs.Io.KnownBytes.{Appends}
use Rattle.module_commands.specs.Lines.{rewrite_lines}
use Rattle.module_commands.proofs.listing.write_rewrites.Given as goal

abbrev pub invariant-loop-rewrite : goal.invariant-loop-rewrite
invariant-loop-rewrite g l =
    Appends (g.W.Write.contents l.initial.output) (g.W.Write.contents l.output) (rewrite_lines l.form l.function (take l.rewrite-index l.rewrites))
