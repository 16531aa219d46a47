-- While preserving, the colour rises by the operator's change.
use Rattle.std.proofs.Common.{rules}
use Rattle.peephole_graphs.proofs.growing.next_color.Goals as goal

pub returns-then-preserving : goal.returns-then-preserving
returns-then-preserving c = search rules
