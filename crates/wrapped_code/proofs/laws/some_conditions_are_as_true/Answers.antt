use Rattle.wrapped_code.proofs.TruthLemmas.{conditions_as_true}
use Rattle.wrapped_code.proofs.laws.some_conditions_are_as_true.Goals as goal

pub returns : goal.returns
returns c = conditions_as_true c.valid_code_runs.ensures
