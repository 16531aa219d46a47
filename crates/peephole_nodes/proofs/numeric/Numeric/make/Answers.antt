use Rattle.std.proofs.Common.{length}
use Rattle.peephole_nodes.proofs.NumericThere.{numeric_none}
use Rattle.peephole_nodes.proofs.numeric.Numeric.make.Goals as goal

pub returns-clause-none : goal.returns-clause-none
returns-clause-none c = numeric_none c.numeric_of.result c.args.place (length c.args.children.now) c.numeric_of.ensures.complete
