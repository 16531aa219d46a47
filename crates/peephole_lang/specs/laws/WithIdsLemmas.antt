-- A node whose children have been written says what it said, and has the children that were written.
use Rattle.std.specs.Prelude.{◌≡◌, ℕ, List, length, refl}
use Rattle.std.proofs.Common.{ap, ap₂, ◌∙◌}
use Rattle.peephole_nodes.specs.declared.payload.Payload.{Payload}
use Rattle.peephole_nodes.specs.declared.id.Id.{Id}
use Rattle.peephole_lang.specs.declared.lang.Lang.{Lang}
use Rattle.peephole_lang.specs.declared.lang.Lang.TheVariants as lang
use Rattle.peephole_lang.specs.Lang.{lang_view, place_of, payload_of, ids_of, with_ids}
use Rattle.peephole_nodes.specs.laws.NumericLemmas.{numeric_keeps_place, numeric_has_written}
use Rattle.peephole_nodes.specs.laws.SimdLemmas.{simd_keeps_place, simd_keeps_payload, simd_has_written}
use Rattle.peephole_lang.specs.Node.{head_of}
use Rattle.peephole_nodes.specs.View.{IsWritten, ids_in}
use Rattle.peephole_nodes.specs.Written.{ids_written}

lang_written : (l : Lang) (w : List Id) → IsWritten (lang_view l) (lang_view (with_ids l w)) w
unfolding with_ids
lang_written (lang.Numeric n) w = record {
  same_place = numeric_keeps_place n w;
  same_payload = refl;
  new_children = numeric_has_written n w;
}
lang_written (lang.Simd s) w = record {
  same_place = simd_keeps_place s w;
  same_payload = simd_keeps_payload s w;
  new_children = simd_has_written s w;
}
lang_written _ w = record { same_place = refl; same_payload = refl; new_children = refl }

keeps_place : (l : Lang) (w : List Id) → place_of (with_ids l w) ≡ place_of l
unfolding place_of
keeps_place l w = (lang_written l w).same_place

keeps_payload : (l : Lang) (w : List Id) → payload_of (with_ids l w) ≡ payload_of l
unfolding payload_of
keeps_payload l w = (lang_written l w).same_payload

pub has_written : (l : Lang) (w : List Id) → length w ≡ length (ids_of l) → ids_of (with_ids l w) ≡ w
unfolding ids_of
has_written l w e = ap ids_in (lang_written l w).new_children ∙ ids_written (lang_view l).children w e

pub keeps_head : (l : Lang) (w : List Id) → head_of (with_ids l w) ≡ head_of l
keeps_head l w = ap₂ (λ (place : ℕ) (payload : Payload). record { place = place; payload = payload }) (keeps_place l w) (keeps_payload l w)
