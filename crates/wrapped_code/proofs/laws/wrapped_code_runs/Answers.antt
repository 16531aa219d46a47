use Rattle.wrapped_code.proofs.WayLemmas.{wrapped_runs}
use Rattle.wrapped_code.proofs.laws.wrapped_code_runs.Goals as goal

pub returns : goal.returns
returns c = wrapped_runs c.valid_code_runs.ensures
