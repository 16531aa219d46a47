use Rattle.peephole_graphs.proofs.graph.EntryTreeLemmas.{children_before, own_tree, entry_operand, last_tree}
use Rattle.peephole_graphs.proofs.laws.entries_have_trees.Goals as goal

pub returns-clause-last : goal.returns-clause-last
returns-clause-last c = last_tree

pub returns-clause-own : goal.returns-clause-own
returns-clause-own c = own_tree

pub returns-clause-missing : goal.returns-clause-missing
returns-clause-missing c = entry_operand

pub returns-clause-before : goal.returns-clause-before
returns-clause-before c = children_before
