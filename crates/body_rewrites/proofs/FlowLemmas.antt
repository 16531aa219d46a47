-- Operators of selects, conditionals and conditions: where they stand in a body.
use Rattle.std.proofs.Common.{◌≡◌, ℕ, zero, suc, ◌+◌, ◌-◌, ◌<◌, ◌≤◌, true, false, List, [], ◌∷◌, ◌++◌, length, map, take, drop, Some, refl}
use Rattle.std.proofs.Common.{sym, ap, subst, ◌∙◌, arith}
use Rattle.std.specs.Prelude.{IsTrue, slice_get, slice_range}
use Rattle.std.proofs.lemmas.Bool.{false≢true}
use Rattle.wasm_code.specs.Body.{is_end, ends}
use Rattle.wasm_code.specs.Instruction.{Instruction}
use Rattle.wasm_code.specs.declared.operator.Operator.{Operator}
use Rattle.wasm_code.specs.declared.operator.Operator.TheVariants as op
use Rattle.wasm_types.specs.declared.types.PrimitiveTypeInfo.{PrimitiveTypeInfo}
use Rattle.body_splices.specs.OwnBytes.{without_offsets}
use Rattle.wasm_execution.specs.Values.{Context}
use Rattle.wrapped_code.specs.Dead.{never_goes_on}
use Rattle.rewrite_rules.specs.Code.{Leaves}
use Rattle.body_rewrites.specs.Trees.{IsTree}
use Rattle.body_rewrites.specs.Own.{IsLeafAt}
use Rattle.body_rewrites.specs.Roots.{class_in}
use Rattle.body_rewrites.proofs.StandsLemmas.{Operators, one_at, stands_nothing, stands_snoc}
use Rattle.body_rewrites.proofs.AloneLemmas.{one_code, range_split}
use Rattle.body_rewrites.proofs.LeavesLemmas.{trees_leave}
use Rattle.body_rewrites.proofs.MatchingLemmas.{length_in}
use Rattle.body_rewrites.proofs.WritingLemmas.{range_alone}

-- ---- single operators

pub range_one : (os : List Operator) (k : ℕ) (o : Operator) → slice_get os k ≡ Some o → slice_range os k (k + 1) ≡ o ∷ []
range_one os k o e = ap (λ n. take n (drop k os)) (let one : k + 1 - k ≡ 1 = omega arith in one) ∙ one_at os k o e

-- the first operator of a range, and the others
pub range_next : (os : List Operator) (k m e : ℕ) (o : Operator) → k + 1 ≡ m → m ≤ e → slice_get os k ≡ Some o →
    slice_range os k e ≡ o ∷ slice_range os m e
range_next os k m e o next l has =
    range_split os k m e (omega (arith, next)) l
    ∙ ap (λ (xs : List Operator). xs ++ slice_range os m e) (ap (slice_range os k) (sym next) ∙ range_one os k o has)

pub drop_one : (os : List Operator) (k : ℕ) (o : Operator) → slice_get os k ≡ Some o → drop k os ≡ o ∷ drop (k + 1) os
drop_one [] k o e = absurd cc
drop_one (x ∷ os) zero o e = ap (λ y. y ∷ os) (let same : x ≡ o = cc in same)
drop_one (x ∷ os) (suc k) o e =
    drop_one os k o e ∙ ap (λ n. o ∷ drop n (x ∷ os)) (let next : suc (k + 1) ≡ suc k + 1 = omega arith in next)

pub take_one : (os : List Operator) (k : ℕ) (o : Operator) → slice_get os k ≡ Some o → take (k + 1) os ≡ take k os ++ o ∷ []
take_one [] k o e = absurd cc
take_one (x ∷ os) zero o e = ap (λ y. y ∷ []) (let same : x ≡ o = cc in same)
take_one (x ∷ os) (suc k) o e =
    ap (λ n. take n (x ∷ os)) (let next : suc k + 1 ≡ suc (k + 1) = omega arith in next) ∙ ap (λ (l : List Operator). x ∷ l) (take_one os k o e)

pub there_inside : (operators : Operators) (k : ℕ) (o : Operator) → slice_get (without_offsets operators) k ≡ Some o → k < length operators
there_inside [] k o e = absurd cc
there_inside (p ∷ ps) zero o e = omega arith
there_inside (p ∷ ps) (suc k) o e = let l = there_inside ps k o e in omega arith

pub range_count : (operators : Operators) (s e : ℕ) → e ≤ length operators → length (slice_range (without_offsets operators) s e) ≡ e - s
range_count operators s e l = ap length (range_alone operators s e) ∙ length_in operators s e l

-- something stands behind what is no end
pub behind_operator : (operators : Operators) (at : ℕ) (o : Operator) → slice_get (without_offsets operators) at ≡ Some o → is_end o ≡ false →
    IsTrue (ends operators) → at + 1 < length operators
behind_operator [] at o e n h = absurd (false≢true h)
behind_operator (x ∷ []) zero o e n h = absurd (false≢true (sym n ∙ (ap is_end (let is : o ≡ x.0 = cc in is) ∙ h)))
behind_operator (x ∷ []) (suc at) o e n h = absurd cc
behind_operator (x ∷ y ∷ os) zero o e n h = omega arith
behind_operator (x ∷ y ∷ os) (suc at) o e n h = let l = behind_operator (y ∷ os) at o e n h in omega arith

-- ---- operators behind which nothing is reached

pub leave_class : (o : Operator) → never_goes_on o ≡ true → class_in (Some o) ≡ 446
leave_class (op.Instr i) e = absurd cc
leave_class o e = refl

pub leave_goes : (o : Operator) → never_goes_on o ≡ true → is_end o ≡ false
leave_goes op.End e = absurd cc
leave_goes o e = refl

-- ---- trees

abbrev instr_of : Instruction → Operator
instr_of i = op.Instr i

module _ (context : Context) (operators : Operators) where
  pub tree_range : (s last end : ℕ) (t : PrimitiveTypeInfo) (tree : IsTree context operators s last t) → last + 1 ≡ end →
      slice_range (without_offsets operators) s end ≡ map instr_of tree.code
  tree_range s last end t tree e =
      ap (slice_range (without_offsets operators) s) (sym e) ∙ (range_alone operators s (last + 1) ∙ tree.stands)

  pub leaf_leaves : (k : ℕ) (t : PrimitiveTypeInfo) (l : IsLeafAt context operators k t) → Leaves context (l.instruction ∷ []) t
  leaf_leaves k t l =
      let here = stands_snoc operators k k [] l.instruction (omega arith) l.has (stands_nothing operators k) in
      let same = one_code operators k (k + 1) l.tree.code (l.instruction ∷ []) l.tree.stands here in
      subst (λ code. Leaves context code t) same (trees_leave context operators k k t l.tree)
