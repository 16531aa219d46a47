use Rattle.peephole_terms.proofs.AgreesLemmas.{leaves_its_types}
use Rattle.peephole_terms.proofs.laws.typed_terms_leave_their_types.Goals as goal

pub returns : goal.returns
returns c = leaves_its_types
