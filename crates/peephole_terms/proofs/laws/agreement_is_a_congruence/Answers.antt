use Rattle.peephole_terms.proofs.AgreesLemmas.{congruence}
use Rattle.peephole_terms.proofs.laws.agreement_is_a_congruence.Goals as goal

pub returns : goal.returns
returns c = congruence
