use Rattle.wrapped_code.proofs.PushLemmas.{wrapped_pushes, pushed_checks, pushing_is_there}
use Rattle.wrapped_code.proofs.laws.wrapped_code_pushes.Goals as goal

pub returns-clause-push : goal.returns-clause-push
returns-clause-push c = wrapped_pushes

pub returns-clause-alike : goal.returns-clause-alike
returns-clause-alike c = pushed_checks

pub returns-clause-there : goal.returns-clause-there
returns-clause-there c = pushing_is_there
