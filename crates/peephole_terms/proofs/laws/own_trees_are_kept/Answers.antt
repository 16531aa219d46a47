use Rattle.peephole_terms.proofs.AgainLemmas.{trees_kept, have_entries}
use Rattle.peephole_terms.proofs.laws.own_trees_are_kept.Goals as goal

pub returns-clause-kept : goal.returns-clause-kept
returns-clause-kept c = trees_kept

pub returns-clause-entries : goal.returns-clause-entries
returns-clause-entries c = have_entries
