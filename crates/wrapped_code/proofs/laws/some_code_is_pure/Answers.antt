use Rattle.wrapped_code.proofs.PureLemmas.{pure_code}
use Rattle.wrapped_code.proofs.laws.some_code_is_pure.Goals as goal

pub returns : goal.returns
returns c = pure_code
