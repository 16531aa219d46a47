use Rattle.peephole_terms.proofs.StackCodeLemmas.{stack_code}
use Rattle.peephole_terms.proofs.laws.terms_are_stack_code.Goals as goal

pub returns : goal.returns
returns c = stack_code
