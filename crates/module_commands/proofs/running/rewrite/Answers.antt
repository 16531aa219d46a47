-- What is reported, or shown, is of what is written.
use Rattle.std.proofs.lemmas.Result.{IfOk-weaker}
use Rattle.module_commands.proofs.running.rewrite.Goals as goal

pub returns-then-options-clause-written : goal.returns-then-options-clause-written
returns-then-options-clause-written g c = IfOk-weaker c.write_reported.result _ _ (λ ending h. h.writes) c.write_reported.ensures.reported

pub returns-clause-written : goal.returns-clause-written
returns-clause-written g c = IfOk-weaker c.write_rewritten.result _ _ (λ ending h. h.writes) c.write_rewritten.ensures.shown
