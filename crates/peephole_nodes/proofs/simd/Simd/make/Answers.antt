use Rattle.std.proofs.Common.{length}
use Rattle.peephole_nodes.proofs.SimdThere.{simd_none}
use Rattle.peephole_nodes.proofs.simd.Simd.make.Goals as goal

pub returns-clause-none : goal.returns-clause-none
returns-clause-none c = simd_none c.simd_of.result c.args.place c.args.payload (length c.args.children.now) c.simd_of.ensures.complete
