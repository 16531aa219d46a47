use Rattle.std.proofs.Common.{take}
use Rattle.std.specs.Io.KnownBytes.{Appends}
use Rattle.module_commands.specs.Sites.{site_lines}
use Rattle.module_commands.proofs.sites.write_sites.Given as goal

abbrev pub invariant-loop-site : goal.invariant-loop-site
invariant-loop-site g l =
    Appends (g.W.Write.contents l.initial.output) (g.W.Write.contents l.output) (site_lines l.form l.function (take l.site-index l.sites))
