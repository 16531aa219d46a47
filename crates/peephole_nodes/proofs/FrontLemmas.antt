-- The code's table of fronts is that of the variants: by computation over the rows.
use Rattle.std.specs.Prelude.{◌≡◌, map, refl}
use Rattle.peephole_nodes.specs.declared.fronts.TheConstants.{FRONTS}
use Rattle.peephole_nodes.specs.Fronts.{variant_front_of}
use Rattle.peephole_nodes.specs.Variants.{variants}

pub same_fronts : map (λ front. front.now) FRONTS ≡ map variant_front_of variants
unfolding variants
same_fronts = refl
