use Rattle.peephole_graphs.proofs.graph.OrderLemmas.{in_order}
use Rattle.peephole_graphs.proofs.text.TreeTextLemmas.{shows_the_forest}
use Rattle.peephole_graphs.proofs.graph.TreeColorLemmas.{shows_the_color}
use Rattle.peephole_graphs.proofs.laws.graph_shows_the_forest.Goals as goal

pub returns-clause-text : goal.returns-clause-text
returns-clause-text c = shows_the_forest

pub returns-clause-color : goal.returns-clause-color
returns-clause-color c = shows_the_color

pub returns-clause-order : goal.returns-clause-order
returns-clause-order c = in_order
