-- A node's text is what begins its variant's texts, and its payload's text.
use Rattle.std.specs.Prelude.{◌≡◌, ◌++◌}
use Rattle.std.proofs.Common.{◌∙◌}
use Rattle.std.proofs.lemmas.List.{append-nil}
use Rattle.peephole_nodes.specs.declared.numeric.Numeric.{Numeric}
use Rattle.peephole_nodes.specs.declared.payload.Payload.TheVariants as payload
use Rattle.peephole_nodes.specs.declared.simd.Simd.{Simd}
use Rattle.peephole_nodes.specs.Fronts.{front_at}
use Rattle.peephole_nodes.specs.Numeric.{numeric_place_of, numeric_count_of}
use Rattle.peephole_nodes.specs.laws.NumericLemmas.{numeric_fits}
use Rattle.peephole_nodes.specs.PayloadText.{inner_text}
use Rattle.peephole_nodes.specs.Simd.{simd_place_of, simd_payload_of, simd_count_of}
use Rattle.peephole_nodes.specs.laws.SimdLemmas.{simd_fits}
use Rattle.peephole_nodes.specs.Text.{numeric_text, simd_text}
use Rattle.peephole_nodes.specs.laws.VariantLemmas.{fitting_text}

pub numeric_text_is : (n : Numeric) → numeric_text n ≡ front_at (numeric_place_of n)
numeric_text_is n =
    fitting_text (numeric_place_of n) payload.Nothing (numeric_count_of n) (numeric_fits n) ∙ append-nil (front_at (numeric_place_of n))

pub simd_text_is : (s : Simd) → simd_text s ≡ front_at (simd_place_of s) ++ inner_text (simd_payload_of s)
simd_text_is s = fitting_text (simd_place_of s) (simd_payload_of s) (simd_count_of s) (simd_fits s)
