-- What a call is, by the number of its results.
use Rattle.std.proofs.Common.{rules}
use Rattle.peephole_graphs.proofs.shape.call_shape.Goals as goal

pub returns : goal.returns
returns c = search rules
