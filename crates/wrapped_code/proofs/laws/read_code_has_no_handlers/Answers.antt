use Rattle.wrapped_code.proofs.ReadLemmas.{read_free}
use Rattle.wrapped_code.proofs.laws.read_code_has_no_handlers.Goals as goal

pub returns : goal.returns
returns c = read_free
