-- A vector node given back from its place, its payload and the ids of its children: these three decide it (this project).
use Rattle.std.specs.Prelude.{◌≡◌, ℕ, ℤ, ◌-◌, nat_lt, Bool, true, false, List, [], ◌∷◌, ◌++◌, map, Option, Some, None, slice_get, if◌then◌else◌, refl}
use Rattle.std.proofs.Common.{sym, ap₂, ◌∙◌}
use Rattle.std.proofs.lemmas.Option.{same_Some}
use Rattle.peephole_payloads.specs.declared.payload.MemArg.{MemArg}
use Rattle.peephole_payloads.specs.declared.payload.Shuffle.{Shuffle}
use Rattle.peephole_nodes.specs.declared.id.Id.{Id}
use Rattle.peephole_nodes.specs.declared.payload.Payload.{Payload}
use Rattle.peephole_nodes.specs.declared.simd.Simd.{Simd}
use Rattle.peephole_nodes.specs.declared.simd.Simd.TheVariants as vector
use Rattle.peephole_nodes.specs.laws.Again.{no_child, one_child, several, plain, of_lane, of_v128, of_memory, of_memory_lane, of_shuffle, made_with}
use Rattle.peephole_nodes.specs.laws.NumericAgain.{numeric_again}
use Rattle.peephole_nodes.specs.Simd.{simd_place_of, simd_payload_of, simd_children, simd_ids_of}

-- ---- the makers of variants with that payload and such children

abbrev pub Maker : Type 0
Maker = Payload → List Id → Option Simd

abbrev plain_children : (List Id → Simd) → Maker
plain_children make = plain (several make)

abbrev lane_child : (ℕ → Id → Simd) → Maker
lane_child make = of_lane (λ p. one_child (make p))

abbrev lane_children : (ℕ → List Id → Simd) → Maker
lane_children make = of_lane (λ p. several (make p))

abbrev memory_child : (MemArg → Id → Simd) → Maker
memory_child make = of_memory (λ p. one_child (make p))

abbrev memory_children : (MemArg → List Id → Simd) → Maker
memory_children make = of_memory (λ p. several (make p))

abbrev memory_lane_children : (ℕ → MemArg → List Id → Simd) → Maker
memory_lane_children make = of_memory_lane (λ p. several (make p.lane p.memarg))

abbrev shuffle_children : (Shuffle → List Id → Simd) → Maker
shuffle_children make = of_shuffle (λ p. several (make p))

abbrev v128_leaf : (ℤ → Simd) → Maker
v128_leaf make = of_v128 (λ p. no_child (make p))

-- by place, from 201 on
unfoldable pub simd_makers : List Maker
simd_makers =
    map memory_child (vector.V128Load ∷ vector.V128Load8x8S ∷ vector.V128Load8x8U ∷ vector.V128Load16x4S ∷ vector.V128Load16x4U ∷ vector.V128Load32x2S
    ∷ vector.V128Load32x2U ∷ vector.V128Load8Splat ∷ vector.V128Load16Splat ∷ vector.V128Load32Splat ∷ vector.V128Load64Splat ∷ [])
    ++ (memory_children vector.V128Store ∷ v128_leaf vector.V128 ∷ shuffle_children vector.I8x16Shuffle ∷ [])
    ++ map plain_children (vector.I8x16Swizzle ∷ vector.I8x16Splat ∷ vector.I16x8Splat ∷ vector.I32x4Splat ∷ vector.I64x2Splat ∷ vector.F32x4Splat
    ∷ vector.F64x2Splat ∷ [])
    ++ (lane_child vector.I8x16ExtractLaneS ∷ lane_child vector.I8x16ExtractLaneU ∷ lane_children vector.I8x16ReplaceLane
    ∷ lane_child vector.I16x8ExtractLaneS ∷ lane_child vector.I16x8ExtractLaneU ∷ lane_children vector.I16x8ReplaceLane ∷ lane_child vector.I32x4ExtractLane
    ∷ lane_children vector.I32x4ReplaceLane ∷ lane_child vector.I64x2ExtractLane ∷ lane_children vector.I64x2ReplaceLane ∷ lane_child vector.F32x4ExtractLane
    ∷ lane_children vector.F32x4ReplaceLane ∷ lane_child vector.F64x2ExtractLane ∷ lane_children vector.F64x2ReplaceLane ∷ [])
    ++ map plain_children (vector.I8x16Eq ∷ vector.I8x16Ne ∷ vector.I8x16LtS ∷ vector.I8x16LtU ∷ vector.I8x16GtS ∷ vector.I8x16GtU ∷ vector.I8x16LeS
    ∷ vector.I8x16LeU ∷ vector.I8x16GeS ∷ vector.I8x16GeU ∷ vector.I16x8Eq ∷ vector.I16x8Ne ∷ vector.I16x8LtS ∷ vector.I16x8LtU ∷ vector.I16x8GtS
    ∷ vector.I16x8GtU ∷ vector.I16x8LeS ∷ vector.I16x8LeU ∷ vector.I16x8GeS ∷ vector.I16x8GeU ∷ vector.I32x4Eq ∷ vector.I32x4Ne ∷ vector.I32x4LtS
    ∷ vector.I32x4LtU ∷ vector.I32x4GtS ∷ vector.I32x4GtU ∷ vector.I32x4LeS ∷ vector.I32x4LeU ∷ vector.I32x4GeS ∷ vector.I32x4GeU ∷ vector.F32x4Eq
    ∷ vector.F32x4Ne ∷ vector.F32x4Lt ∷ vector.F32x4Gt ∷ vector.F32x4Le ∷ vector.F32x4Ge ∷ vector.F64x2Eq ∷ vector.F64x2Ne ∷ vector.F64x2Lt ∷ vector.F64x2Gt
    ∷ vector.F64x2Le ∷ vector.F64x2Ge ∷ vector.V128Not ∷ vector.V128And ∷ vector.V128AndNot ∷ vector.V128Or ∷ vector.V128Xor ∷ vector.V128Bitselect
    ∷ vector.V128AnyTrue ∷ [])
    ++ map memory_lane_children (vector.V128Load8Lane ∷ vector.V128Load16Lane ∷ vector.V128Load32Lane ∷ vector.V128Load64Lane ∷ vector.V128Store8Lane
    ∷ vector.V128Store16Lane ∷ vector.V128Store32Lane ∷ vector.V128Store64Lane ∷ [])
    ++ map memory_child (vector.V128Load32Zero ∷ vector.V128Load64Zero ∷ [])
    ++ map plain_children (vector.F32x4DemoteF64x2Zero ∷ vector.F64x2PromoteLowF32x4 ∷ vector.I8x16Abs ∷ vector.I8x16Neg ∷ vector.I8x16Popcnt
    ∷ vector.I8x16AllTrue ∷ vector.I8x16Bitmask ∷ vector.I8x16NarrowI16x8S ∷ vector.I8x16NarrowI16x8U ∷ vector.F32x4Ceil ∷ vector.F32x4Floor
    ∷ vector.F32x4Trunc ∷ vector.F32x4Nearest ∷ vector.I8x16Shl ∷ vector.I8x16ShrS ∷ vector.I8x16ShrU ∷ vector.I8x16Add ∷ vector.I8x16AddSatS
    ∷ vector.I8x16AddSatU ∷ vector.I8x16Sub ∷ vector.I8x16SubSatS ∷ vector.I8x16SubSatU ∷ vector.F64x2Ceil ∷ vector.F64x2Floor ∷ vector.I8x16MinS
    ∷ vector.I8x16MinU ∷ vector.I8x16MaxS ∷ vector.I8x16MaxU ∷ vector.F64x2Trunc ∷ vector.I8x16AvgrU ∷ vector.I16x8ExtAddPairwiseI8x16S
    ∷ vector.I16x8ExtAddPairwiseI8x16U ∷ vector.I32x4ExtAddPairwiseI16x8S ∷ vector.I32x4ExtAddPairwiseI16x8U ∷ vector.I16x8Abs ∷ vector.I16x8Neg
    ∷ vector.I16x8Q15MulrSatS ∷ vector.I16x8AllTrue ∷ vector.I16x8Bitmask ∷ vector.I16x8NarrowI32x4S ∷ vector.I16x8NarrowI32x4U ∷ vector.I16x8ExtendLowI8x16S
    ∷ vector.I16x8ExtendHighI8x16S ∷ vector.I16x8ExtendLowI8x16U ∷ vector.I16x8ExtendHighI8x16U ∷ vector.I16x8Shl ∷ vector.I16x8ShrS ∷ vector.I16x8ShrU
    ∷ vector.I16x8Add ∷ vector.I16x8AddSatS ∷ vector.I16x8AddSatU ∷ vector.I16x8Sub ∷ vector.I16x8SubSatS ∷ vector.I16x8SubSatU ∷ vector.F64x2Nearest
    ∷ vector.I16x8Mul ∷ vector.I16x8MinS ∷ vector.I16x8MinU ∷ vector.I16x8MaxS ∷ vector.I16x8MaxU ∷ vector.I16x8AvgrU ∷ vector.I16x8ExtMulLowI8x16S
    ∷ vector.I16x8ExtMulHighI8x16S ∷ vector.I16x8ExtMulLowI8x16U ∷ vector.I16x8ExtMulHighI8x16U ∷ vector.I32x4Abs ∷ vector.I32x4Neg ∷ vector.I32x4AllTrue
    ∷ vector.I32x4Bitmask ∷ vector.I32x4ExtendLowI16x8S ∷ vector.I32x4ExtendHighI16x8S ∷ vector.I32x4ExtendLowI16x8U ∷ vector.I32x4ExtendHighI16x8U
    ∷ vector.I32x4Shl ∷ vector.I32x4ShrS ∷ vector.I32x4ShrU ∷ vector.I32x4Add ∷ vector.I32x4Sub ∷ vector.I32x4Mul ∷ vector.I32x4MinS ∷ vector.I32x4MinU
    ∷ vector.I32x4MaxS ∷ vector.I32x4MaxU ∷ vector.I32x4DotI16x8S ∷ vector.I32x4ExtMulLowI16x8S ∷ vector.I32x4ExtMulHighI16x8S ∷ vector.I32x4ExtMulLowI16x8U
    ∷ vector.I32x4ExtMulHighI16x8U ∷ vector.I64x2Abs ∷ vector.I64x2Neg ∷ vector.I64x2AllTrue ∷ vector.I64x2Bitmask ∷ vector.I64x2ExtendLowI32x4S
    ∷ vector.I64x2ExtendHighI32x4S ∷ vector.I64x2ExtendLowI32x4U ∷ vector.I64x2ExtendHighI32x4U ∷ vector.I64x2Shl ∷ vector.I64x2ShrS ∷ vector.I64x2ShrU
    ∷ vector.I64x2Add ∷ vector.I64x2Sub ∷ vector.I64x2Mul ∷ vector.I64x2Eq ∷ vector.I64x2Ne ∷ vector.I64x2LtS ∷ vector.I64x2GtS ∷ vector.I64x2LeS
    ∷ vector.I64x2GeS ∷ vector.I64x2ExtMulLowI32x4S ∷ vector.I64x2ExtMulHighI32x4S ∷ vector.I64x2ExtMulLowI32x4U ∷ vector.I64x2ExtMulHighI32x4U
    ∷ vector.F32x4Abs ∷ vector.F32x4Neg ∷ vector.F32x4Sqrt ∷ vector.F32x4Add ∷ vector.F32x4Sub ∷ vector.F32x4Mul ∷ vector.F32x4Div ∷ vector.F32x4Min
    ∷ vector.F32x4Max ∷ vector.F32x4PMin ∷ vector.F32x4PMax ∷ vector.F64x2Abs ∷ vector.F64x2Neg ∷ vector.F64x2Sqrt ∷ vector.F64x2Add ∷ vector.F64x2Sub
    ∷ vector.F64x2Mul ∷ vector.F64x2Div ∷ vector.F64x2Min ∷ vector.F64x2Max ∷ vector.F64x2PMin ∷ vector.F64x2PMax ∷ vector.I32x4TruncSatF32x4S
    ∷ vector.I32x4TruncSatF32x4U ∷ vector.F32x4ConvertI32x4S ∷ vector.F32x4ConvertI32x4U ∷ vector.I32x4TruncSatF64x2SZero ∷ vector.I32x4TruncSatF64x2UZero
    ∷ vector.F64x2ConvertLowI32x4S ∷ vector.F64x2ConvertLowI32x4U ∷ vector.I8x16RelaxedSwizzle ∷ vector.I32x4RelaxedTruncF32x4S
    ∷ vector.I32x4RelaxedTruncF32x4U ∷ vector.I32x4RelaxedTruncF64x2SZero ∷ vector.I32x4RelaxedTruncF64x2UZero ∷ vector.F32x4RelaxedMadd
    ∷ vector.F32x4RelaxedNmadd ∷ vector.F64x2RelaxedMadd ∷ vector.F64x2RelaxedNmadd ∷ vector.I8x16RelaxedLaneselect ∷ vector.I16x8RelaxedLaneselect
    ∷ vector.I32x4RelaxedLaneselect ∷ vector.I64x2RelaxedLaneselect ∷ vector.F32x4RelaxedMin ∷ vector.F32x4RelaxedMax ∷ vector.F64x2RelaxedMin
    ∷ vector.F64x2RelaxedMax ∷ vector.I16x8RelaxedQ15mulrS ∷ vector.I16x8RelaxedDotI8x16I7x16S ∷ vector.I32x4RelaxedDotI8x16I7x16AddS ∷ [])

-- the vector node with that place, that payload and these children
unfoldable pub simd_again : ℕ → Payload → List Id → Option Simd
simd_again place p w = if nat_lt place 201 then None else made_with (slice_get simd_makers (place - 201)) p w

pub simd_given_back : (s : Simd) → simd_again (simd_place_of s) (simd_payload_of s) (simd_ids_of s) ≡ Some s
unfolding simd_place_of simd_payload_of simd_children no_child one_child several plain of_lane of_v128 of_memory of_memory_lane of_shuffle
    made_with simd_makers simd_again
simd_given_back (vector.V128Load _ _) = refl
simd_given_back _ = refl

-- the place, the payload and the ids of the children decide a vector node
pub simd_determined : (s t : Simd) → simd_place_of s ≡ simd_place_of t → simd_payload_of s ≡ simd_payload_of t → simd_ids_of s ≡ simd_ids_of t → s ≡ t
simd_determined s t place payload ids =
    same_Some s t (sym (simd_given_back s) ∙ (ap₂ (λ (again : List Id → Option Simd) (w : List Id). again w) (ap₂ simd_again place payload) ids
    ∙ simd_given_back t))

-- ---- the place of a vector node is none of a numeric node

behind : {A : Type 0} (early : Bool) (o : Option A) (x : A) → (if early then None else o) ≡ Some x → early ≡ false
behind true o x e = absurd cc
behind false o x e = refl

neither : {A : Type 0} (early late : Bool) (o : Option A) → late ≡ false → (if early then None else if late then o else None) ≡ None
neither true late o e = refl
neither false true o e = absurd cc
neither false false o e = refl

simd_behind : (s : Simd) → nat_lt (simd_place_of s) 201 ≡ false
unfolding simd_again
simd_behind s = behind (nat_lt (simd_place_of s) 201) _ s (simd_given_back s)

pub simd_no_numeric : (s : Simd) (w : List Id) → numeric_again (simd_place_of s) w ≡ None
unfolding numeric_again
simd_no_numeric s w = neither (nat_lt (simd_place_of s) 52) (nat_lt (simd_place_of s) 201) _ (simd_behind s)
