use Rattle.peephole_graphs.proofs.forest.OrderTest.{decides_the_order}
use Rattle.peephole_graphs.proofs.laws.order_is_decided.Goals as goal

pub returns : goal.returns
returns c = decides_the_order
