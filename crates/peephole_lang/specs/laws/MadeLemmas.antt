-- A node is made of each place, payload and number of children that fit a variant: by computation over the table.
use Rattle.std.specs.Prelude.{◌≡◌, ℕ, ◌==◌, ◌&&◌, ◌||◌, ◌⊎◌, Bool, true, [], Some, pos, refl}
use Rattle.std.proofs.Common.{sym, ap, ap₂, ◌∙◌, inl, inr}
use Rattle.std.specs.Option.{option_map}
use Rattle.std.proofs.lemmas.Bool.{and_parts, and_from, cases_eq, ne_eqb, eqb-true}
use Rattle.wasm_code.specs.declared.immediate.ValType.TheVariants as types
use Rattle.peephole_payloads.specs.declared.payload.RefType.TheVariants as ref
use Rattle.peephole_nodes.specs.declared.payload.Payload.{Payload}
use Rattle.peephole_nodes.specs.declared.payload.Payload.TheVariants as payload
use Rattle.peephole_nodes.specs.declared.payload.PayloadKind.{PayloadKind}
use Rattle.peephole_nodes.specs.declared.payload.PayloadKind.TheVariants as kind
use Rattle.peephole_nodes.specs.declared.arity.Arity.{Arity}
use Rattle.peephole_nodes.specs.declared.arity.Arity.TheVariants as arity
use Rattle.peephole_lang.specs.LangShapes.{is_plain_leaf, is_plain_one, is_index_leaf, is_index_one, is_index_two, is_index_three}
use Rattle.peephole_lang.specs.LangShapes.{is_memory_one, is_memory_two}
use Rattle.peephole_nodes.specs.NumericShapes.{is_numeric_plain_one_to_171, is_numeric_plain_one_from_172, is_numeric_plain_two_to_100}
use Rattle.peephole_nodes.specs.NumericShapes.{is_numeric_plain_two_from_101}
use Rattle.peephole_nodes.specs.SimdShapes.{is_simd_memory_one, is_simd_memory_two, is_simd_v128_leaf, is_simd_shuffle_two}
use Rattle.peephole_nodes.specs.SimdShapes.{is_simd_plain_one_to_383, is_simd_plain_one_from_384, is_simd_plain_two_to_279}
use Rattle.peephole_nodes.specs.SimdShapes.{is_simd_plain_two_280_to_370, is_simd_plain_two_371_to_428, is_simd_plain_two_from_429}
use Rattle.peephole_nodes.specs.SimdShapes.{is_simd_plain_three, is_simd_lane_one, is_simd_lane_two, is_simd_memory_lane_two}
use Rattle.peephole_nodes.specs.Payload.{is_payload_of}
use Rattle.peephole_lang.specs.Making.{is_made}
use Rattle.peephole_lang.specs.laws.TableLemmas.{all_of, one_of, place_is}
use Rattle.peephole_nodes.specs.laws.VariantLemmas.{HasVariant, has_variant}
use Rattle.peephole_nodes.specs.Variants.{Variant, variants, variant_at, is_right, is_node_of, variant_fits}

-- ---- the payload and the number of children that a variant takes

pub example : PayloadKind → Payload
example kind.Nothing = payload.Nothing
example kind.Index = payload.Index 0
example kind.Lane = payload.Lane 0
example kind.I32 = payload.I32 (pos 0)
example kind.I64 = payload.I64 (pos 0)
example kind.F32 = payload.F32 0
example kind.F64 = payload.F64 0
example kind.V128 = payload.V128 (pos 0)
example kind.Memory = payload.Memory (record { static_offset = 0; align = 0; mem = 0 })
example kind.MemoryLane = payload.MemoryLane (record { memarg = record { static_offset = 0; align = 0; mem = 0 }; lane = 0 })
example kind.Shuffle = payload.Shuffle (record { indices = [] })
example kind.Ref = payload.Ref ref.Func
example kind.Value = payload.Value types.I32
example kind.MemoryInit = payload.MemoryInit (record { memory = 0; segment = 0 })
example kind.MemoryCopy = payload.MemoryCopy (record { src = 0; dst = 0 })
example kind.TableInit = payload.TableInit (record { table = 0; segment = 0 })
example kind.TableCopy = payload.TableCopy (record { src = 0; dst = 0 })

pub count_in : Arity → ℕ
count_in arity.Zero = 0
count_in arity.One = 1
count_in (arity.Several n) = n
count_in arity.Any = 0

pub any_made : Arity → ℕ → Bool
any_made arity.Any place = (place == 11) || (place == 13)
any_made _ place = true

pub variants_made : all_of (λ v. is_made v.place (example v.payload) (count_in v.children) && any_made v.children v.place) variants ≡ true
unfolding all_of variants example count_in any_made is_plain_leaf is_plain_one is_index_leaf is_index_one is_index_two is_index_three
    is_memory_one is_memory_two is_numeric_plain_one_to_171 is_numeric_plain_one_from_172 is_numeric_plain_two_to_100
    is_numeric_plain_two_from_101 is_simd_memory_one is_simd_memory_two is_simd_v128_leaf is_simd_shuffle_two is_simd_plain_one_to_383
    is_simd_plain_one_from_384 is_simd_plain_two_to_279 is_simd_plain_two_280_to_370 is_simd_plain_two_371_to_428 is_simd_plain_two_from_429
    is_simd_plain_three is_simd_lane_one is_simd_lane_two is_simd_memory_lane_two
variants_made = refl

-- ---- what fits a variant

pub fits_variant : (place : ℕ) (p : Payload) (given : ℕ) → HasVariant place p given → variant_fits place p given ≡ true
fits_variant place p given h = ap (λ o. is_node_of o p given) h.at
    ∙ and_from (is_payload_of h.variant.payload p) (is_right h.variant.children given) h.kind h.right

-- ---- whether a node is made goes by the kind of payload alone

made_as : (k : PayloadKind) (p : Payload) (place given : ℕ) → is_payload_of k p ≡ true → is_made place p given ≡ is_made place (example k) given
unfolding example
made_as kind.Nothing payload.Nothing place given e = refl
made_as kind.Index (payload.Index _) place given e = refl
made_as kind.Lane (payload.Lane _) place given e = refl
made_as kind.I32 (payload.I32 _) place given e = refl
made_as kind.I64 (payload.I64 _) place given e = refl
made_as kind.F32 (payload.F32 _) place given e = refl
made_as kind.F64 (payload.F64 _) place given e = refl
made_as kind.V128 (payload.V128 _) place given e = refl
made_as kind.Memory (payload.Memory _) place given e = refl
made_as kind.MemoryLane (payload.MemoryLane _) place given e = refl
made_as kind.Shuffle (payload.Shuffle _) place given e = refl
made_as kind.Ref (payload.Ref _) place given e = refl
made_as kind.Value (payload.Value _) place given e = refl
made_as kind.MemoryInit (payload.MemoryInit _) place given e = refl
made_as kind.MemoryCopy (payload.MemoryCopy _) place given e = refl
made_as kind.TableInit (payload.TableInit _) place given e = refl
made_as kind.TableCopy (payload.TableCopy _) place given e = refl
made_as _ _ place given e = absurd cc

-- ---- and by the number of children, or by the place alone

any_place : (place : ℕ) → any_made arity.Any place ≡ true → (place ≡ 11) ⊎ (place ≡ 13)
unfolding any_made
any_place place e = elim (cases_eq place 11) [ inl is ↦ inl is | inr other ↦ inr (eqb-true place 13 (rw (ne_eqb place 11 other) at e)) ]

counted : (a : Arity) (given : ℕ) → is_right a given ≡ true → (a ≡ arity.Any) ⊎ (given ≡ count_in a)
unfolding count_in
counted arity.Zero given e = inr (sym (eqb-true 0 given e))
counted arity.One given e = inr (sym (eqb-true 1 given e))
counted (arity.Several n) given e = inr (sym (eqb-true n given e))
counted arity.Any given e = inl refl

container_kind : (v : Variant) → variant_at 11 ≡ Some v → v.payload ≡ kind.Nothing
unfolding variants
container_kind v e = let same : Some v.payload ≡ Some kind.Nothing = sym (ap (option_map (λ (w : Variant). w.payload)) e) in cc

call_kind : (v : Variant) → variant_at 13 ≡ Some v → v.payload ≡ kind.Index
unfolding variants
call_kind v e = let same : Some v.payload ≡ Some kind.Index = sym (ap (option_map (λ (w : Variant). w.payload)) e) in cc

any_at_11 : (v : Variant) (given : ℕ) → variant_at 11 ≡ Some v → is_made 11 (example v.payload) given ≡ true
unfolding example
any_at_11 v given e = ap (λ k. is_made 11 (example k) given) (container_kind v e)

any_at_13 : (v : Variant) (given : ℕ) → variant_at 13 ≡ Some v → is_made 13 (example v.payload) given ≡ true
unfolding example
any_at_13 v given e = ap (λ k. is_made 13 (example k) given) (call_kind v e)

any_at : (place given : ℕ) (v : Variant) → variant_at place ≡ Some v → (place ≡ 11) ⊎ (place ≡ 13) → is_made place (example v.payload) given ≡ true
any_at place given v e (inl is) = ap (λ n. is_made n (example v.payload) given) is ∙ any_at_11 v given (sym (ap variant_at is) ∙ e)
any_at place given v e (inr is) = ap (λ n. is_made n (example v.payload) given) is ∙ any_at_13 v given (sym (ap variant_at is) ∙ e)

made_of : (place given : ℕ) (v : Variant) → variant_at place ≡ Some v → v.place ≡ place → is_right v.children given ≡ true →
    is_made place (example v.payload) given ≡ true
made_of place given v at same right =
    let known = and_parts (is_made v.place (example v.payload) (count_in v.children)) (any_made v.children v.place)
    (one_of _ variants place v variants_made at) in
    elim (counted v.children given right) [
      | inl any ↦ any_at place given v at (any_place place (ap₂ any_made (sym any) (sym same) ∙ known.1))
      | inr is ↦ ap₂ (λ m n. is_made m (example v.payload) n) (sym same) is ∙ known.0
    ]

-- what fits is made
pub fits_made : (place : ℕ) (p : Payload) (given : ℕ) → variant_fits place p given ≡ true → is_made place p given ≡ true
fits_made place p given e =
    let h = has_variant place p given e in
    made_as h.variant.payload p place given h.kind ∙ made_of place given h.variant h.at (place_is place h.variant h.at) h.right
