use Rattle.peephole_terms.proofs.KnownLemmas.{known_stay}
use Rattle.peephole_terms.proofs.laws.known_operators_stay_known.Goals as goal

pub returns : goal.returns
returns c = known_stay
