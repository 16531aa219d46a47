-- Each law stands in a file of its own.
use Rattle.std.proofs.Common.{◌∙◌, ap}
use Rattle.std.specs.Prelude.{reverse}
use Rattle.std.proofs.lemmas.List.{reverse-reverse}
use Rattle.peephole_graphs.proofs.forest.SameTrees.{same_trees}
use Rattle.peephole_graphs.proofs.forest.TreeOrder.{written_in_order, written_again, in_order_code}
use Rattle.peephole_graphs.proofs.forest.ConsecutiveOperators.{together_from_order, order_from_together}
use Rattle.peephole_graphs.proofs.laws.laws_of_forests.Goals as goal

pub returns-clause-same : goal.returns-clause-same
returns-clause-same c = same_trees

pub returns-clause-order : goal.returns-clause-order
returns-clause-order c = written_in_order

pub returns-clause-again : goal.returns-clause-again
returns-clause-again c block = ap reverse (written_again block)

pub returns-clause-together : goal.returns-clause-together
returns-clause-together c block = (together_from_order block, order_from_together block)

pub returns-clause-postfix : goal.returns-clause-postfix
returns-clause-postfix c block o = ap reverse (in_order_code block o) ∙ reverse-reverse block
