use Rattle.peephole_graphs.proofs.graph.FaultLemmas.{has_no_fault, finds_no_graph, finds_unknown, finds_too_large}
use Rattle.peephole_graphs.proofs.laws.faults_are_found.Goals as goal

pub returns-clause-none : goal.returns-clause-none
returns-clause-none c = has_no_fault

pub returns-clause-no_graph : goal.returns-clause-no_graph
returns-clause-no_graph c = finds_no_graph

pub returns-clause-unknown : goal.returns-clause-unknown
returns-clause-unknown c = finds_unknown

pub returns-clause-too_large : goal.returns-clause-too_large
returns-clause-too_large c = finds_too_large
