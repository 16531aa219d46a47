-- Each node is of a variant of the table: its place, its kind of payload and its number of children are the variant's
-- (this project).
use Rattle.std.specs.Prelude.{◌≡◌, true, refl}
use Rattle.peephole_lang.specs.declared.lang.Lang.{Lang}
use Rattle.peephole_lang.specs.declared.lang.Lang.TheVariants as lang
use Rattle.peephole_lang.specs.Lang.{place_of, payload_of, variant_child_count}
use Rattle.peephole_nodes.specs.laws.NumericLemmas.{numeric_fits}
use Rattle.peephole_nodes.specs.laws.SimdLemmas.{simd_fits}
use Rattle.peephole_nodes.specs.Variants.{variants, variant_fits}

pub fits_own : (l : Lang) → variant_fits (place_of l) (payload_of l) (variant_child_count l) ≡ true
unfolding place_of payload_of variant_child_count variants
fits_own (lang.Numeric n) = numeric_fits n
fits_own (lang.Simd s) = simd_fits s
fits_own _ = refl
