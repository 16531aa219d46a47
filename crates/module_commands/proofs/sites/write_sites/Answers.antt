-- One line more.
use Rattle.std.proofs.Common.{refl}
use Rattle.module_commands.specs.Sites.{site_line, site_lines}
use Rattle.module_commands.proofs.LinesLemmas.{line_next}
use Rattle.module_commands.proofs.sites.write_sites.Goals as goal

pub loop-site-preserved : goal.loop-site-preserved
loop-site-preserved g c =
    line_next (site_line c.args.form c.args.function) (site_lines c.args.form c.args.function) refl (λ s ss. refl)
    (g.W.Write.contents c.args.output.now) (g.W.Write.contents c.loop-site.output) (g.W.Write.contents c.write_site.new.output) c.args.sites.now
    c.loop-site.site-index _ c.loop-site-test.true c.loop-site.invariant c.in_ok-write_site.ensures.line
