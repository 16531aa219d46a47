use Rattle.wrapped_code.proofs.AloneLemmas.{code_is_alone}
use Rattle.wrapped_code.proofs.laws.typed_code_is_alone.Goals as goal

pub returns : goal.returns
returns c = code_is_alone c.valid_code_runs.ensures
