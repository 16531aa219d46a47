use Rattle.peephole_terms.proofs.TermOfLemmas.{as_they_are}
use Rattle.peephole_terms.proofs.laws.trees_are_written_as_they_are.Goals as goal

pub returns : goal.returns
returns c = as_they_are
