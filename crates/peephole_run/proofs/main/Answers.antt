use Rattle.std.proofs.Common.{ap}
use Rattle.peephole_run.proofs.main.Goals as goal

pub run-answer-requires-clause-output_sound : goal.run-answer-requires-clause-output_sound
run-answer-requires-clause-output_sound c = ap (λ t. t.failed) c.new-output.ensures
