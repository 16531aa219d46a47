-- A vector node whose children have been written is seen as before, but for its children; each node is of a variant of the
-- table: its place, its kind of payload and its number of children are the variant's (this project).
use Rattle.std.specs.Prelude.{◌≡◌, true, List, refl}
use Rattle.peephole_nodes.specs.declared.id.Id.{Id}
use Rattle.peephole_nodes.specs.declared.simd.Simd.{Simd}
use Rattle.peephole_nodes.specs.declared.simd.Simd.TheVariants as vector
use Rattle.peephole_nodes.specs.Simd.{simd_view, simd_place_of, simd_payload_of, simd_children, simd_count_of, simd_with_ids}
use Rattle.peephole_nodes.specs.Variants.{variants, variant_fits}
use Rattle.peephole_nodes.specs.View.{IsWritten, written}

simd_written : (s : Simd) (w : List Id) → IsWritten (simd_view s) (simd_view (simd_with_ids s w)) w
unfolding simd_with_ids
simd_written (vector.V128Load _ _) w = record { same_place = refl; same_payload = refl; new_children = refl }
simd_written _ w = record { same_place = refl; same_payload = refl; new_children = refl }

pub simd_keeps_place : (s : Simd) (w : List Id) → simd_place_of (simd_with_ids s w) ≡ simd_place_of s
unfolding simd_place_of
simd_keeps_place s w = (simd_written s w).same_place

pub simd_keeps_payload : (s : Simd) (w : List Id) → simd_payload_of (simd_with_ids s w) ≡ simd_payload_of s
unfolding simd_payload_of
simd_keeps_payload s w = (simd_written s w).same_payload

pub simd_has_written : (s : Simd) (w : List Id) → simd_children (simd_with_ids s w) ≡ written (simd_children s) w
unfolding simd_children
simd_has_written s w = (simd_written s w).new_children

pub simd_fits : (s : Simd) → variant_fits (simd_place_of s) (simd_payload_of s) (simd_count_of s) ≡ true
unfolding simd_place_of simd_payload_of simd_count_of variants
simd_fits (vector.V128Load _ _) = refl
simd_fits _ = refl
