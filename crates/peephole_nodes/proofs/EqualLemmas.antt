-- The test for equal nodes is true exactly where they are equal.
use Rattle.std.specs.Prelude.{◌≡◌, refl}
use Rattle.std.specs.Bool.{Decides}
use Rattle.std.proofs.Common.{ap}
use Rattle.peephole_nodes.specs.declared.numeric.Numeric.{Numeric}
use Rattle.peephole_nodes.specs.declared.simd.Simd.{Simd}
use Rattle.peephole_nodes.specs.Compared.{numeric_payload_of, numeric_eq, simd_eq}
use Rattle.peephole_nodes.specs.laws.ComparedLemmas.{equal_alike}
use Rattle.peephole_nodes.specs.Numeric.{numeric_place_of, numeric_ids_of}
use Rattle.peephole_nodes.specs.laws.NumericAgain.{numeric_determined}
use Rattle.peephole_nodes.specs.Simd.{simd_place_of, simd_payload_of, simd_ids_of}
use Rattle.peephole_nodes.specs.laws.SimdAgain.{simd_determined}

pub numeric_equal : (l m : Numeric) → Decides (numeric_eq l m) (l ≡ m)
numeric_equal l m =
    let alike = equal_alike numeric_place_of numeric_payload_of numeric_ids_of l m in (
      λ e. let same = alike.0 e in numeric_determined l m same.0 same.2,
      λ e. alike.1 (ap numeric_place_of e, refl, ap numeric_ids_of e),
    )

pub simd_equal : (l m : Simd) → Decides (simd_eq l m) (l ≡ m)
simd_equal l m =
    let alike = equal_alike simd_place_of simd_payload_of simd_ids_of l m in (
      λ e. let same = alike.0 e in simd_determined l m same.0 same.1 same.2,
      λ e. alike.1 (ap simd_place_of e, ap simd_payload_of e, ap simd_ids_of e),
    )
