-- A node given back from its place, its payload and the ids of its children, but for how much memory a list of
-- children keeps for more: these three decide it (this project).
use Rattle.std.specs.Prelude.{◌≡◌, ℕ, ◌-◌, nat_lt, List, [], ◌∷◌, Option, Some, slice_get, if◌then◌else◌, refl}
use Rattle.std.specs.Option.{option_map, option_or}
use Rattle.std.proofs.Common.{sym, ap₂, ◌∙◌, subst}
use Rattle.std.proofs.lemmas.Option.{same_Some}
use Rattle.peephole_nodes.specs.declared.id.Id.{Id}
use Rattle.peephole_nodes.specs.declared.numeric.Numeric.{Numeric as NumericNode}
use Rattle.peephole_nodes.specs.declared.payload.Payload.{Payload}
use Rattle.peephole_nodes.specs.declared.payload.Payload.TheVariants.{Nothing}
use Rattle.peephole_nodes.specs.declared.simd.Simd.{Simd as VectorNode}
use Rattle.peephole_lang.specs.declared.lang.Head.{Head}
use Rattle.peephole_lang.specs.declared.lang.Lang.{Lang}
use Rattle.peephole_lang.specs.declared.lang.Lang.TheVariants as lang
use Rattle.peephole_nodes.specs.laws.Again.{no_child, one_child, several, no_node, plain, of_index, of_i32, of_i64, of_f32, of_f64}
use Rattle.peephole_nodes.specs.laws.Again.{of_memory, of_ref, of_value, of_memory_init, of_memory_copy, of_table_init, of_table_copy, made}
use Rattle.peephole_nodes.specs.laws.Again.{made_with}
use Rattle.peephole_nodes.specs.Numeric.{numeric_place_of, numeric_ids_of}
use Rattle.peephole_nodes.specs.laws.NumericAgain.{numeric_makers, numeric_again, numeric_given_back}
use Rattle.peephole_nodes.specs.Simd.{simd_place_of, simd_payload_of, simd_ids_of}
use Rattle.peephole_nodes.specs.laws.SimdAgain.{simd_makers, simd_again, simd_given_back, simd_no_numeric}
use Rattle.peephole_lang.specs.Equal.{IsContainer, IsCall, IsEqual}
use Rattle.peephole_lang.specs.Lang.{place_of, payload_of, ids_of}
use Rattle.peephole_lang.specs.Node.{head_of}

-- a node without what its list of children keeps
pub data Seen : Type 0 where
  container : List Id → Seen
  call : ℕ → List Id → Seen
  other : Lang → Seen

unfoldable pub seen : Lang → Seen
seen (lang.Container children) = container children.items
seen (lang.Call p children) = call p children.items
seen l = other l

-- ---- the makers of nodes that hold no other node

abbrev plain_leaf : Lang → Payload → List Id → Option Seen
plain_leaf l = plain (no_child (other l))

abbrev plain_child : (Id → Lang) → Payload → List Id → Option Seen
plain_child make = plain (one_child (λ child. other (make child)))

abbrev plain_children : (List Id → Lang) → Payload → List Id → Option Seen
plain_children make = plain (several (λ w. other (make w)))

-- with what the payload says
abbrev leaf_with : {P : Type 0} → (P → Lang) → P → List Id → Option Seen
leaf_with make p = no_child (other (make p))

abbrev child_with : {P : Type 0} → (P → Id → Lang) → P → List Id → Option Seen
child_with make p = one_child (λ child. other (make p child))

abbrev children_with : {P : Type 0} → (P → List Id → Lang) → P → List Id → Option Seen
children_with make p = several (λ w. other (make p w))

-- by place
own_makers : List (Payload → List Id → Option Seen)
own_makers =
    plain_leaf lang.RandI32 ∷ plain_leaf lang.RandI64 ∷ plain_leaf lang.RandF32 ∷ plain_leaf lang.RandF64 ∷ plain_leaf lang.Undef
    ∷ plain_child lang.UnfoldI32 ∷ plain_child lang.UnfoldI64 ∷ plain_child lang.I32UseGlobal ∷ plain_child lang.I64UseGlobal
    ∷ plain_child lang.F32UseGlobal ∷ plain_child lang.F64UseGlobal ∷ plain (several (λ w. container w)) ∷ plain_leaf lang.Nop
    ∷ of_index (λ p. several (λ w. call p w)) ∷ plain_children lang.Drop ∷ plain_children lang.Select ∷ of_index (leaf_with lang.LocalGet)
    ∷ of_index (child_with lang.LocalSet) ∷ of_index (child_with lang.LocalTee) ∷ of_index (leaf_with lang.GlobalGet)
    ∷ of_index (child_with lang.GlobalSet) ∷ of_index (child_with lang.TableGet) ∷ of_index (children_with lang.TableSet)
    ∷ of_memory (child_with lang.I32Load) ∷ of_memory (child_with lang.I64Load) ∷ of_memory (child_with lang.F32Load)
    ∷ of_memory (child_with lang.F64Load) ∷ of_memory (child_with lang.I32Load8S) ∷ of_memory (child_with lang.I32Load8U)
    ∷ of_memory (child_with lang.I32Load16S) ∷ of_memory (child_with lang.I32Load16U) ∷ of_memory (child_with lang.I64Load8S)
    ∷ of_memory (child_with lang.I64Load8U) ∷ of_memory (child_with lang.I64Load16S) ∷ of_memory (child_with lang.I64Load16U)
    ∷ of_memory (child_with lang.I64Load32S) ∷ of_memory (child_with lang.I64Load32U) ∷ of_memory (children_with lang.I32Store)
    ∷ of_memory (children_with lang.I64Store) ∷ of_memory (children_with lang.F32Store) ∷ of_memory (children_with lang.F64Store)
    ∷ of_memory (children_with lang.I32Store8) ∷ of_memory (children_with lang.I32Store16) ∷ of_memory (children_with lang.I64Store8)
    ∷ of_memory (children_with lang.I64Store16) ∷ of_memory (children_with lang.I64Store32) ∷ of_index (leaf_with lang.MemorySize)
    ∷ of_index (child_with lang.MemoryGrow) ∷ of_i32 (leaf_with lang.I32) ∷ of_i64 (leaf_with lang.I64) ∷ of_f32 (leaf_with lang.F32)
    ∷ of_f64 (leaf_with lang.F64) ∷ of_ref (leaf_with lang.RefNull) ∷ plain_child lang.RefIsNull ∷ of_index (leaf_with lang.RefFunc)
    ∷ of_memory_init (children_with lang.MemoryInit) ∷ of_index (leaf_with lang.DataDrop) ∷ of_memory_copy (children_with lang.MemoryCopy)
    ∷ of_index (children_with lang.MemoryFill) ∷ of_table_init (children_with lang.TableInit) ∷ of_index (leaf_with lang.ElemDrop)
    ∷ of_table_copy (children_with lang.TableCopy) ∷ of_index (children_with lang.TableGrow) ∷ of_index (leaf_with lang.TableSize)
    ∷ of_index (children_with lang.TableFill) ∷ of_value (children_with lang.TypedSelect) ∷ []

-- where a place stands among those of these nodes: 0 to 51, 180 to 182, 191 to 200, and 457
own_index : ℕ → ℕ
own_index place = if nat_lt place 52 then place else if nat_lt place 183 then place - 128 else if nat_lt place 201 then place - 136 else place - 392

own_again : ℕ → Payload → List Id → Option Seen
own_again place p w = made_with (slice_get own_makers (own_index place)) p w

numeric_seen : ℕ → List Id → Option Seen
numeric_seen place w = option_map (λ n. other (lang.Numeric n)) (numeric_again place w)

simd_seen : ℕ → Payload → List Id → Option Seen
simd_seen place p w = option_map (λ s. other (lang.Simd s)) (simd_again place p w)

-- the node with that place, that payload and these children
again : ℕ → Payload → List Id → Option Seen
again place p w = option_or (numeric_seen place w) (option_or (simd_seen place p w) (own_again place p w))

numeric_back : (n : NumericNode) → again (numeric_place_of n) Nothing (numeric_ids_of n) ≡ Some (other (lang.Numeric n))
unfolding again numeric_seen
numeric_back n = rw (numeric_given_back n) refl

simd_back : (s : VectorNode) → again (simd_place_of s) (simd_payload_of s) (simd_ids_of s) ≡ Some (other (lang.Simd s))
unfolding again numeric_seen simd_seen
simd_back s = rw (simd_no_numeric s (simd_ids_of s), simd_given_back s) refl

given_back : (l : Lang) → again (place_of l) (payload_of l) (ids_of l) ≡ Some (seen l)
unfolding place_of payload_of ids_of no_child one_child several no_node plain of_index of_i32 of_i64 of_f32 of_f64 of_memory of_ref of_value
    of_memory_init of_memory_copy of_table_init of_table_copy made made_with numeric_makers numeric_again simd_makers simd_again seen own_makers
    own_index own_again numeric_seen simd_seen again
given_back (lang.Numeric n) = numeric_back n
given_back (lang.Simd s) = simd_back s
given_back _ = refl

same_seen : (l m : Lang) → head_of l ≡ head_of m → ids_of l ≡ ids_of m → seen l ≡ seen m
same_seen l m head ids =
    same_Some (seen l) (seen m) (sym (given_back l) ∙ (ap₂ (λ (h : Head) (w : List Id). again h.place h.payload w) head ids ∙ given_back m))

-- ---- nodes that are seen the same are equal

IsSeen : Seen → Lang → Type 0
IsSeen (container ids) m = IsContainer ids m
IsSeen (call p ids) m = IsCall p ids m
IsSeen (other l) m = l ≡ m

itself : (l : Lang) → IsSeen (seen l) l
unfolding seen IsSeen
itself (lang.Container children) = refl
itself (lang.Call p children) = (refl, refl)
itself l = refl

seen_equal : (l m : Lang) → IsSeen (seen l) m → IsEqual l m
unfolding seen IsSeen IsEqual
seen_equal (lang.Container children) m e = e
seen_equal (lang.Call p children) m e = e
seen_equal l m e = e

-- the head and the ids of the children decide a node
pub determined : (l m : Lang) → head_of l ≡ head_of m → ids_of l ≡ ids_of m → IsEqual l m
determined l m head ids = seen_equal l m (subst (λ (s : Seen). IsSeen s m) (sym (same_seen l m head ids)) (itself m))
