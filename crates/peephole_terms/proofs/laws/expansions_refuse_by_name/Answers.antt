use Rattle.peephole_terms.proofs.RangeLemmas.{refuses_by_name}
use Rattle.peephole_terms.proofs.laws.expansions_refuse_by_name.Goals as goal

pub returns : goal.returns
returns c = refuses_by_name
