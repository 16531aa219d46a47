-- The text of a node (this project): the name of its variant, and where it has a payload a dot and the payload.
use Rattle.std.specs.Prelude.{ℕ, List, [], ◌++◌, Option, Some, None}
use Rattle.peephole_nodes.specs.declared.numeric.Numeric.{Numeric}
use Rattle.peephole_nodes.specs.declared.payload.Payload.{Payload}
use Rattle.peephole_nodes.specs.declared.payload.Payload.TheVariants as payload
use Rattle.peephole_nodes.specs.declared.simd.Simd.{Simd}
use Rattle.peephole_nodes.specs.Numeric.{numeric_place_of}
use Rattle.peephole_nodes.specs.PayloadText.{payload_text}
use Rattle.peephole_nodes.specs.Simd.{simd_place_of, simd_payload_of}
use Rattle.peephole_nodes.specs.Variants.{Variant, variant_at}

abbrev pub variant_name_in : Option Variant → List ℕ
variant_name_in None = []
variant_name_in (Some v) = v.name

-- the text of a node with that place and that payload
abbrev pub text_at : ℕ → Payload → List ℕ
text_at place p = variant_name_in (variant_at place) ++ payload_text p

abbrev pub numeric_text : Numeric → List ℕ
numeric_text n = text_at (numeric_place_of n) payload.Nothing

abbrev pub simd_text : Simd → List ℕ
simd_text s = text_at (simd_place_of s) (simd_payload_of s)
