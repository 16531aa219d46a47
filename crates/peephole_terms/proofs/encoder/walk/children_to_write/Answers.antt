use Rattle.std.proofs.Common.{rules}
use Rattle.peephole_terms.proofs.encoder.walk.children_to_write.Goals as goal

pub returns-then-is_unfold : goal.returns-then-is_unfold
returns-then-is_unfold c = search rules

pub returns : goal.returns
returns c = search rules
