-- One line more.
use Rattle.module_commands.proofs.FaultsLemmas.{made_next}
use Rattle.module_commands.proofs.stats.write_made.Goals as goal

pub loop-one-preserved : goal.loop-one-preserved
loop-one-preserved g c =
    made_next (g.W.Write.contents c.args.notes.now) (g.W.Write.contents c.loop-one.notes) (g.W.Write.contents c.write_rewrite.new.output)
    c.args.form c.args.made.now c.loop-one.one-index _ c.loop-one-test.true c.loop-one.invariant c.in_ok-write_rewrite.ensures.line
