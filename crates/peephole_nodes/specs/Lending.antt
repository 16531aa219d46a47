-- What a node ends as, once its lent children have been written (this project): as it was, with the children that were written last.
use Rattle.std.specs.Prelude.{List}
use Rattle.std.specs.Borrow.{Lends, MutBor, Fml, Array}
use Rattle.peephole_nodes.specs.contracts.id.Id as id
use Rattle.peephole_nodes.specs.contracts.numeric.Numeric as numeric
use Rattle.peephole_nodes.specs.contracts.simd.Simd as simd
use Rattle.peephole_nodes.specs.declared.id.Id.{Id}
use Rattle.peephole_nodes.specs.declared.numeric.Numeric.{Numeric}
use Rattle.peephole_nodes.specs.declared.simd.Simd.{Simd}
use Rattle.peephole_nodes.specs.Numeric.{numeric_with_ids}
use Rattle.peephole_nodes.specs.Simd.{simd_with_ids}

abbrev pub LendsNumericIds : MutBor Numeric → MutBor (List Id) → Fml
LendsNumericIds n r = Lends numeric.the_row (Array id.the_row 0) n r (numeric_with_ids n.now)

abbrev pub LendsSimdIds : MutBor Simd → MutBor (List Id) → Fml
LendsSimdIds s r = Lends simd.the_row (Array id.the_row 0) s r (simd_with_ids s.now)
