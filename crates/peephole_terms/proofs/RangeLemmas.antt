-- What a term expands to: instructions that are in range where those of its steps are, or one of two refusals.
use Rattle.std.proofs.Common.{◌≡◌, ◌⊎◌, inl, inr, ℕ, ℤ, pos, neg_ℤ, ◌≤ℤ◌, ◌<ℤ◌, ◌+◌, ◌%◌, ◌^◌, List, [], ◌∷◌, ◌++◌, length, drop, refl, subst, ◌∙◌}
use Rattle.std.proofs.Common.{arith, Bool, true, false, cond, Result, Ok, Err, Option, Some, None}
use Rattle.std.specs.Prelude.{nat_le}
use Rattle.std.specs.Int.{w32, w64, cast_signed, int_wrapping_sub}
use Rattle.std.specs.List.{All}
use Rattle.std.proofs.lemmas.Bool.{leb-true}
use Rattle.std.proofs.lemmas.Int.{ints}
use Rattle.std.proofs.lemmas.List.Elements.{All-nil, All-cons, All-append, All-head}
use Rattle.wasm_code.specs.Instruction.{Instruction, IsInstruction}
use Rattle.mutate_base.specs.declared.error.Error.{Error}
use Rattle.mutate_base.specs.declared.error.Error.TheVariants.{CannotUnfold, GlobalIndex}
use Rattle.peephole_lang.specs.declared.lang.Head.{Head}
use Rattle.peephole_lang.specs.Term.{Term, Terms, absent, node, no_terms, ◌▸◌}
use Rattle.peephole_graphs.specs.Tree.{Trees}
use Rattle.wasm_execution.specs.declared.integer.IntegerType.TheVariants as integer
use Rattle.peephole_terms.specs.declared.encoder.node_kind.NumberType.TheVariants as number
use Rattle.peephole_terms.specs.NodeKind.{NumberType, IntegerType, NodeKind, node_kind, number_type_of, Own, Random, Unfold, UseGlobal}
use Rattle.peephole_terms.specs.EncoderSteps.{Step, IsInRange, split, store, own_step, children_to_write, steps_of, steps}
use Rattle.peephole_terms.specs.Expansion.{constant, rest_of, add_of, global_set_code, global_get_code, constant_in, unfolded_sum_of}
use Rattle.peephole_terms.specs.Expansion.{first_expansion_word, joined_code, own_code}
use Rattle.peephole_terms.specs.Expansion.{with_own_code}
use Rattle.peephole_terms.specs.Expansion.{requests_of, requests, draws_of, draws, draw_words, expansion_of, expansion}
use Rattle.peephole_terms.specs.Laws.{RefusesByName}
use Rattle.peephole_terms.specs.Written.{with_tree_replaced}
use Rattle.peephole_terms.proofs.RowLemmas.{global_get_row, global_set_row, i32_const_row, i64_const_row, f32_const_row, f64_const_row, i32_add_row}
use Rattle.peephole_terms.proofs.RowLemmas.{i64_add_row}
use Rattle.peephole_terms.proofs.RootTerms.{All-front, All-back, IsWrittenAs}

-- ---- instructions of nodes without a row

signed_32 : (n : ℕ) → (neg_ℤ (pos (2 ^ 31)) ≤ℤ cast_signed w32 n) × (cast_signed w32 n <ℤ pos (2 ^ 31))
signed_32 n = (omega (arith, ints), omega (arith, ints))

signed_64 : (n : ℕ) → (neg_ℤ (pos (2 ^ 63)) ≤ℤ cast_signed w64 n) × (cast_signed w64 n <ℤ pos (2 ^ 63))
signed_64 n = (omega (arith, ints), omega (arith, ints))

constant_is : (t : NumberType) (word : ℕ) → IsInstruction (constant t word)
constant_is number.I32 word = record { kind = i32_const_row (cast_signed w32 (word % 2 ^ 32)); in_range = signed_32 (word % 2 ^ 32) }
constant_is number.I64 word = record { kind = i64_const_row (cast_signed w64 (word % 2 ^ 64)); in_range = signed_64 (word % 2 ^ 64) }
constant_is number.F32 word = record { kind = f32_const_row _; in_range = omega arith }
constant_is number.F64 word = record { kind = f64_const_row _; in_range = omega arith }

rest_is : (t : IntegerType) (word : ℕ) (z : ℤ) → IsInstruction (rest_of t word z)
rest_is integer.I32 word z = record { kind = i32_const_row (int_wrapping_sub w32 z (cast_signed w32 (word % 2 ^ 32))); in_range = signed_32 _ }
rest_is integer.I64 word z = record { kind = i64_const_row (int_wrapping_sub w64 z (cast_signed w64 (word % 2 ^ 64))); in_range = signed_64 _ }

add_is : (t : IntegerType) → IsInstruction (add_of t)
add_is integer.I32 = record { kind = i32_add_row; in_range = tt }
add_is integer.I64 = record { kind = i64_add_row; in_range = tt }

-- ---- what steps expand to

abbrev IsSound : List Step → Result (List Instruction) Error → Type 0
IsSound taken (Ok is) = All IsInRange taken → All IsInstruction is
IsSound taken (Err e) = (e ≡ CannotUnfold) ⊎ (e ≡ GlobalIndex)

one_is : (i : Instruction) → IsInstruction i → All IsInstruction (i ∷ [])
one_is i h = All-cons IsInstruction i [] h (All-nil IsInstruction)

sum_sound : (t : IntegerType) (word : ℕ) (o : Option ℤ) → IsSound (split t o ∷ []) (unfolded_sum_of t word o)
sum_sound t word (Some z) = λ r.
    All-cons IsInstruction (constant (number_type_of t) word) (rest_of t word z ∷ add_of t ∷ []) (constant_is (number_type_of t) word)
    (All-cons IsInstruction (rest_of t word z) (add_of t ∷ []) (rest_is t word z) (one_is (add_of t) (add_is t)))
sum_sound t word None = inl refl

through_sound : (t : NumberType) (g : ℕ) (b : Bool) → nat_le g 4294967295 ≡ b →
    IsSound (store t ∷ []) (cond b (Ok (global_set_code g ∷ global_get_code g ∷ [])) (Err GlobalIndex))
through_sound t g true e = λ r.
    let small = leb-true g 4294967295 e in
    All-cons IsInstruction (global_set_code g) (global_get_code g ∷ []) (record { kind = global_set_row g; in_range = omega arith })
    (one_is (global_get_code g) (record { kind = global_get_row g; in_range = omega arith }))
through_sound t g false e = inr refl

own_sound : (k : NodeKind) (kids : Terms Head) (next : ℕ) (words : List ℕ) → IsSound (own_step k kids ∷ []) (own_code next words k)
own_sound (Own i) kids next words = λ r. one_is i (All-head IsInRange (own_step (Own i) kids) [] r)
own_sound (Random t) kids next words = λ r. one_is (constant t (first_expansion_word words)) (constant_is t (first_expansion_word words))
own_sound (UseGlobal t) kids next words = through_sound t next (nat_le next 4294967295) refl
own_sound _ kids next words = λ r. All-nil IsInstruction

joined_sound : (xs ys : List Step) (a b : Result (List Instruction) Error) → IsSound xs a → IsSound ys b → IsSound (xs ++ ys) (joined_code a b)
joined_sound xs ys (Err e) b p q = p
joined_sound xs ys (Ok is) (Err e) p q = q
joined_sound xs ys (Ok is) (Ok js) p q = λ r.
    All-append IsInstruction is js (p (All-front IsInRange xs ys r)) (q (All-back IsInRange xs ys r))

-- ---- terms

abbrev AreSound : Terms Head → Type 0
AreSound ts = (n : ℕ) (words : List ℕ) → IsSound (steps ts) (expansion n words ts)

node_sound : (k : NodeKind) (kids : Terms Head) (n : ℕ) (words : List ℕ) → AreSound kids →
    IsSound (children_to_write k (steps kids) ++ own_step k kids ∷ []) (with_own_code n words k kids (expansion n words kids))
node_sound (Unfold t) kids n words all = sum_sound t (first_expansion_word words) (constant_in t kids)
node_sound k kids n words all =
    joined_sound (steps kids) (own_step k kids ∷ []) (expansion n words kids) (own_code (n + length (requests kids)) (drop (length (draws kids)) words) k)
    (all n words) (own_sound k kids (n + length (requests kids)) (drop (length (draws kids)) words))

mutual
  term_sound : (t : Term Head) (n : ℕ) (words : List ℕ) → IsSound (steps_of t) (expansion_of n words t)
  term_sound absent n words = λ r. All-nil IsInstruction
  term_sound (node h kids) n words = node_sound (node_kind h) kids n words (terms_sound kids)

  terms_sound : (ts : Terms Head) → AreSound ts
  terms_sound no_terms n words = λ r. All-nil IsInstruction
  terms_sound (t ▸ ts) n words =
      let next = n + length (requests_of t) in
      let left = drop (length (draws_of t)) words in
      joined_sound (steps_of t) (steps ts) (expansion_of n words t) (expansion next left ts) (term_sound t n words) (terms_sound ts next left)

-- a term's expansion is refused for two reasons alone
pub refuses_by_name : RefusesByName
refuses_by_name s t e h = subst (IsSound (steps_of t)) h (term_sound t (length s.info.globals) (draw_words (draws_of t) s.stream).0)

-- what a term is written as is in range, where its steps are
pub term_in_range : (t : Term Head) (n : ℕ) (words : List ℕ) (code : List Instruction) → All IsInRange (steps_of t) → expansion_of n words t ≡ Ok code →
    All IsInstruction code
term_in_range t n words code r e = subst (IsSound (steps_of t)) e (term_sound t n words) r

-- what a block is written as is in range, where the steps of the roots' terms are
pub block_in_range : {first at : ℕ} {t : Term Head} {ts : Trees} {us : Terms Head} (n : ℕ) (words : List ℕ) (code : List Instruction) →
    IsWrittenAs first at t ts us → All IsInRange (steps us) → expansion_of n words t ≡ Ok code → All IsInstruction (with_tree_replaced first at code ts)
block_in_range {first} {at} {t} {ts} {us} n words code p r e =
    let whole : expansion n words us ≡ Ok (with_tree_replaced first at code ts) = p.code n words ∙ rw e refl in
    subst (IsSound (steps us)) whole (terms_sound us n words) r
