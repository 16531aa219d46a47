-- One line more.
use Rattle.std.proofs.Common.{refl}
use Rattle.module_commands.specs.Changes.{summary_line, summary_lines}
use Rattle.module_commands.proofs.LinesLemmas.{line_next}
use Rattle.module_commands.proofs.changes.write_lines.Goals as goal

pub loop-change-preserved : goal.loop-change-preserved
loop-change-preserved g c =
    line_next (summary_line c.args.form) (summary_lines c.args.form) refl (λ x xs. refl) (g.W.Write.contents c.args.output.now)
    (g.W.Write.contents c.loop-change.output) (g.W.Write.contents c.write_line.new.output) c.args.changes.now c.loop-change.change-index _
    c.loop-change-test.true c.loop-change.invariant c.in_ok-write_line.ensures.line
