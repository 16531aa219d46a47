-- The places of vector nodes, their kinds of payload and their numbers of children are those that are told.
use Rattle.std.proofs.Common.{◌≡◌, ℕ, true, true≢false, refl, sym, ap, ap₂, ◌∙◌}
use Rattle.std.specs.Prelude.{Option, Some, None, is_some, IfNone}
use Rattle.peephole_nodes.specs.declared.payload.Payload.{Payload}
use Rattle.peephole_nodes.specs.declared.simd.Simd.{Simd}
use Rattle.peephole_nodes.specs.declared.simd.Simd.TheVariants as vector
use Rattle.peephole_nodes.specs.Made.{LacksSimd}
use Rattle.peephole_nodes.specs.Simd.{simd_place_of, simd_payload_of, simd_count_of}
use Rattle.peephole_nodes.specs.SimdShapes.{is_simd, is_simd_memory_one, is_simd_memory_two, is_simd_v128_leaf, is_simd_shuffle_two}
use Rattle.peephole_nodes.specs.SimdShapes.{is_simd_plain_one_to_383, is_simd_plain_one_from_384, is_simd_plain_two_to_279}
use Rattle.peephole_nodes.specs.SimdShapes.{is_simd_plain_two_280_to_370, is_simd_plain_two_371_to_428, is_simd_plain_two_from_429}
use Rattle.peephole_nodes.specs.SimdShapes.{is_simd_plain_three, is_simd_lane_one, is_simd_lane_two, is_simd_memory_lane_two}

simd_there : (s : Simd) → is_simd (simd_place_of s) (simd_payload_of s) (simd_count_of s) ≡ true
unfolding simd_place_of simd_payload_of simd_count_of is_simd_memory_one is_simd_memory_two is_simd_v128_leaf is_simd_shuffle_two
    is_simd_plain_one_to_383 is_simd_plain_one_from_384 is_simd_plain_two_to_279 is_simd_plain_two_280_to_370 is_simd_plain_two_371_to_428
    is_simd_plain_two_from_429 is_simd_plain_three is_simd_lane_one is_simd_lane_two is_simd_memory_lane_two
simd_there (vector.V128Load _ _) = refl
simd_there _ = refl

-- where none is told, there is none
pub simd_none : (made : Option Simd) (place : ℕ) (p : Payload) (count : ℕ) → is_some made ≡ is_simd place p count →
    IfNone made (LacksSimd place p count)
simd_none (Some s) place p count e = tt
simd_none None place p count e = λ s a b c.
    true≢false (sym (simd_there s) ∙ (ap₂ (λ n q. is_simd n q (simd_count_of s)) a b ∙ (ap (is_simd place p) c ∙ sym e)))
