-- Which numeric and vector nodes there are none of (this project).
use Rattle.std.specs.Prelude.{◌≡◌, ℕ}
use Rattle.peephole_nodes.specs.declared.numeric.Numeric.{Numeric}
use Rattle.peephole_nodes.specs.declared.payload.Payload.{Payload}
use Rattle.peephole_nodes.specs.declared.simd.Simd.{Simd}
use Rattle.peephole_nodes.specs.Numeric.{numeric_place_of, numeric_count_of}
use Rattle.peephole_nodes.specs.Simd.{simd_place_of, simd_payload_of, simd_count_of}

-- no numeric node has the place and that many children
abbrev pub LacksNumeric : ℕ → ℕ → Type 0
LacksNumeric place count = (l : Numeric) → numeric_place_of l ≡ place → numeric_count_of l ≡ count → ⊥

-- no vector node has the place, the payload and that many children
abbrev pub LacksSimd : ℕ → Payload → ℕ → Type 0
LacksSimd place payload count = (l : Simd) → simd_place_of l ≡ place → simd_payload_of l ≡ payload → simd_count_of l ≡ count → ⊥
