use Rattle.peephole_graphs.proofs.graph.TermOfLemmas.{has_terms_of_trees}
use Rattle.peephole_graphs.proofs.laws.terms_stand_for_trees.Goals as goal

pub returns : goal.returns
returns c = has_terms_of_trees
