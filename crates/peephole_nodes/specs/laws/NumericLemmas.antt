-- A numeric node whose children have been written is seen as before, but for its children; each node is of a variant of the
-- table: its place and its number of children are the variant's, and it has no payload (this project).
use Rattle.std.specs.Prelude.{◌≡◌, true, List, refl}
use Rattle.peephole_nodes.specs.declared.id.Id.{Id}
use Rattle.peephole_nodes.specs.declared.numeric.Numeric.{Numeric}
use Rattle.peephole_nodes.specs.declared.numeric.Numeric.TheVariants as numeric
use Rattle.peephole_nodes.specs.declared.payload.Payload.TheVariants.{Nothing}
use Rattle.peephole_nodes.specs.Numeric.{numeric_view, numeric_place_of, numeric_children, numeric_count_of, numeric_with_ids}
use Rattle.peephole_nodes.specs.Variants.{variants, variant_fits}
use Rattle.peephole_nodes.specs.View.{IsWritten, written}

numeric_written : (n : Numeric) (w : List Id) → IsWritten (numeric_view n) (numeric_view (numeric_with_ids n w)) w
unfolding numeric_with_ids
numeric_written (numeric.I32Eqz _) w = record { same_place = refl; same_payload = refl; new_children = refl }
numeric_written _ w = record { same_place = refl; same_payload = refl; new_children = refl }

pub numeric_keeps_place : (n : Numeric) (w : List Id) → numeric_place_of (numeric_with_ids n w) ≡ numeric_place_of n
unfolding numeric_place_of
numeric_keeps_place n w = (numeric_written n w).same_place

pub numeric_has_written : (n : Numeric) (w : List Id) → numeric_children (numeric_with_ids n w) ≡ written (numeric_children n) w
unfolding numeric_children
numeric_has_written n w = (numeric_written n w).new_children

pub numeric_fits : (n : Numeric) → variant_fits (numeric_place_of n) Nothing (numeric_count_of n) ≡ true
unfolding numeric_place_of numeric_count_of variants
numeric_fits (numeric.I32Eqz _) = refl
numeric_fits _ = refl
