use Rattle.std.proofs.Common.{sym}
use Rattle.peephole_terms.proofs.KindLemmas.{one_unfolds, other_unfolds}
use Rattle.peephole_terms.proofs.encoder.walk.is_unfold.Goals as goal

pub returns-in_default : goal.returns-in_default
returns-in_default c = sym (other_unfolds c.args.node.now c.in_default.not-UnfoldI32 c.in_default.not-UnfoldI64)

pub returns-in-UnfoldI32-2 : goal.returns-in-UnfoldI32-2
returns-in-UnfoldI32-2 c = sym (one_unfolds c.args.node.now c.in-UnfoldI32.is)

pub returns-in-UnfoldI32 : goal.returns-in-UnfoldI32
returns-in-UnfoldI32 c = sym (one_unfolds c.args.node.now c.in-UnfoldI32.is)
