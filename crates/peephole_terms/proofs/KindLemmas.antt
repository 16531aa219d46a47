-- What a node is to the writer, by its variant.
use Rattle.std.proofs.Common.{◌≡◌, ◌≤◌, Bool, true, false, List, Option, Some, None, ◌⊎◌, inl, inr, refl, ap, ◌∙◌, arith}
use Rattle.std.specs.Prelude.{nat_lt, if◌then◌else◌}
use Rattle.std.proofs.lemmas.Bool.{ltb-false}
use Rattle.std.proofs.lemmas.Option.{slice_get_past}
use Rattle.wasm_code.specs.Instruction.{Instruction}
use Rattle.peephole_nodes.specs.declared.id.Id.{Id}
use Rattle.peephole_nodes.specs.declared.numeric.Numeric.{Numeric}
use Rattle.peephole_nodes.specs.declared.simd.Simd.{Simd}
use Rattle.peephole_nodes.specs.Numeric.{numeric_place_of}
use Rattle.peephole_nodes.specs.Simd.{simd_place_of}
use Rattle.peephole_nodes.specs.laws.NumericAgain.{numeric_again, numeric_given_back}
use Rattle.peephole_nodes.specs.laws.SimdAgain.{simd_again, simd_given_back}
use Rattle.peephole_lang.specs.declared.lang.Head.{Head}
use Rattle.peephole_lang.specs.declared.lang.Lang.{Lang}
use Rattle.peephole_lang.specs.declared.lang.Lang.TheVariants as lang
use Rattle.peephole_lang.specs.Lang.{place_of}
use Rattle.peephole_lang.specs.Node.{head_of, children_of, instr_of_head, instr_of}
use Rattle.peephole_lang.specs.Term.{Terms, Node, pick, tree_at}
use Rattle.peephole_terms.specs.EncoderSteps.{own_step, own_step_in, nothing}
use Rattle.peephole_terms.specs.NodeKind.{NodeKind, rowless, kind_found, node_kind, of_instruction, is_unfold}

-- ---- the places of nodes that are held in one: they have a row

-- what is given back has a late place
behind : {A : Type 0} (early : Bool) (o : Option A) (x : A) → (if early then None else o) ≡ Some x → early ≡ false
behind true o x e = absurd cc
behind false o x e = refl

numeric_behind : (n : Numeric) → 12 ≤ numeric_place_of n
unfolding numeric_again
numeric_behind n =
    let late = ltb-false (numeric_place_of n) 52 (behind (nat_lt (numeric_place_of n) 52) _ n (numeric_given_back n)) in
    omega arith

simd_behind : (s : Simd) → 12 ≤ simd_place_of s
unfolding simd_again
simd_behind s =
    let late = ltb-false (simd_place_of s) 201 (behind (nat_lt (simd_place_of s) 201) _ s (simd_given_back s)) in
    omega arith

-- ---- unfolds

-- an instruction is none
none_unfolds : (o : Option Instruction) → is_unfold (of_instruction o) ≡ false
none_unfolds None = refl
none_unfolds (Some i) = refl

-- nor is a node with a row
row_unfolds : (h : Head) → 12 ≤ h.place → is_unfold (node_kind h) ≡ false
row_unfolds h late =
    ap (λ (k : Option NodeKind). is_unfold (kind_found k (instr_of_head h))) (slice_get_past rowless h.place late)
    ∙ none_unfolds (instr_of_head h)

-- the two variants that are
pub one_unfolds : (l : Lang) → ((i : Id) × (l ≡ lang.UnfoldI32 i)) ⊎ ((i : Id) × (l ≡ lang.UnfoldI64 i)) → is_unfold (node_kind (head_of l)) ≡ true
unfolding place_of
one_unfolds l (inl h) = ap (λ (l : Lang). is_unfold (node_kind (head_of l))) h.1
one_unfolds l (inr h) = ap (λ (l : Lang). is_unfold (node_kind (head_of l))) h.1

-- no other one is
pub other_unfolds : (l : Lang) → ((i : Id) → l ≡ lang.UnfoldI32 i → ⊥) → ((i : Id) → l ≡ lang.UnfoldI64 i → ⊥) → is_unfold (node_kind (head_of l)) ≡ false
unfolding place_of
other_unfolds (lang.UnfoldI32 i) a b = absurd (a i refl)
other_unfolds (lang.UnfoldI64 i) a b = absurd (b i refl)
other_unfolds (lang.Numeric n) a b = row_unfolds (head_of (lang.Numeric n)) (numeric_behind n)
other_unfolds (lang.Simd s) a b = row_unfolds (head_of (lang.Simd s)) (simd_behind s)
other_unfolds l a b = none_unfolds (instr_of_head (head_of l))

-- ---- what a node adds

-- A node that is neither random, nor an unfold, nor the use of a global.
pub record IsPlain (l : Lang) : Type 0 where
  pub rand_i32 : l ≡ lang.RandI32 → ⊥
  pub rand_i64 : l ≡ lang.RandI64 → ⊥
  pub rand_f32 : l ≡ lang.RandF32 → ⊥
  pub rand_f64 : l ≡ lang.RandF64 → ⊥
  pub unfold_i32 : (i : Id) → l ≡ lang.UnfoldI32 i → ⊥
  pub unfold_i64 : (i : Id) → l ≡ lang.UnfoldI64 i → ⊥
  pub global_i32 : (i : Id) → l ≡ lang.I32UseGlobal i → ⊥
  pub global_i64 : (i : Id) → l ≡ lang.I64UseGlobal i → ⊥
  pub global_f32 : (i : Id) → l ≡ lang.F32UseGlobal i → ⊥
  pub global_f64 : (i : Id) → l ≡ lang.F64UseGlobal i → ⊥

-- a node with a row adds nothing, where it has no instruction
row_adds : (h : Head) (kids : Terms Head) → 12 ≤ h.place → instr_of_head h ≡ None → own_step (node_kind h) kids ≡ nothing
row_adds h kids late e =
    ap (λ (k : Option NodeKind). own_step (kind_found k (instr_of_head h)) kids) (slice_get_past rowless h.place late)
    ∙ ap (λ (i : Option Instruction). own_step (of_instruction i) kids) e

-- nor does any other
plain_adds : (l : Lang) (kids : Terms Head) → instr_of l ≡ None → IsPlain l → own_step (node_kind (head_of l)) kids ≡ nothing
unfolding place_of
plain_adds lang.RandI32 kids e h = absurd (h.rand_i32 refl)
plain_adds lang.RandI64 kids e h = absurd (h.rand_i64 refl)
plain_adds lang.RandF32 kids e h = absurd (h.rand_f32 refl)
plain_adds lang.RandF64 kids e h = absurd (h.rand_f64 refl)
plain_adds (lang.UnfoldI32 i) kids e h = absurd (h.unfold_i32 i refl)
plain_adds (lang.UnfoldI64 i) kids e h = absurd (h.unfold_i64 i refl)
plain_adds (lang.I32UseGlobal i) kids e h = absurd (h.global_i32 i refl)
plain_adds (lang.I64UseGlobal i) kids e h = absurd (h.global_i64 i refl)
plain_adds (lang.F32UseGlobal i) kids e h = absurd (h.global_f32 i refl)
plain_adds (lang.F64UseGlobal i) kids e h = absurd (h.global_f64 i refl)
plain_adds (lang.Numeric n) kids e h = row_adds (head_of (lang.Numeric n)) kids (numeric_behind n) e
plain_adds (lang.Simd s) kids e h = row_adds (head_of (lang.Simd s)) kids (simd_behind s) e
plain_adds l kids e h = ap (λ (i : Option Instruction). own_step (of_instruction i) kids) e

-- so it is with the children that are there
pub adds_nothing : (ns : List (Node Head)) (l : Lang) → instr_of l ≡ None → IsPlain l → own_step_in ns l ≡ nothing
adds_nothing ns l e h = plain_adds l (pick (tree_at ns) (children_of l)) e h

-- what is nothing that is there is none
pub none_left : {A : Type 0} (o : Option A) → ((x : A) → o ≡ Some x → ⊥) → o ≡ None
none_left None h = refl
none_left (Some x) h = absurd (h x refl)
