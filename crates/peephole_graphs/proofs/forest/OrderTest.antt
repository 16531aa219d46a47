-- The test of the order decides it.
use Rattle.std.proofs.lemmas.Slice.Eq.{bytes_eq-Decides}
use Rattle.std.specs.Prelude.{length}
use Rattle.peephole_graphs.specs.Tree.{postfix, range_from}
use Rattle.peephole_graphs.specs.Forest.{forest, DecidesTheOrder}

pub decides_the_order : DecidesTheOrder
decides_the_order block = bytes_eq-Decides (postfix (forest block)) (range_from 0 (length block))
