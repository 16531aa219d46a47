-- One line more.
use Rattle.std.proofs.Common.{refl}
use Rattle.module_commands.specs.Changing.{change_line, change_lines}
use Rattle.module_commands.proofs.LinesLemmas.{line_next}
use Rattle.module_commands.proofs.change_report.write_made.Goals as goal

pub loop-one-preserved : goal.loop-one-preserved
loop-one-preserved g c =
    line_next (change_line c.args.form) (change_lines c.args.form) refl (λ m ms. refl) (g.W.Write.contents c.args.notes.now)
    (g.W.Write.contents c.loop-one.notes) (g.W.Write.contents c.write_site.new.output) c.args.made.now c.loop-one.one-index _ c.loop-one-test.true
    c.loop-one.invariant (rw c.site.ensures at c.in_ok-write_site.ensures.line)
