use Rattle.std.proofs.Common.{refl}
use Rattle.peephole_nodes.specs.Simd.{simd_children}
use Rattle.peephole_nodes.proofs.simd_shapes.simd_shuffle_two.Goals as goal

pub returns-in-214-clause-children : goal.returns-in-214-clause-children
unfolding simd_children
returns-in-214-clause-children c = refl
