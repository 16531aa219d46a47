-- Lines of comparisons, tests and selects are right.
use Rattle.std.proofs.Common.{◌≡◌, ℕ, zero, suc, ◌+◌, ◌-◌, ◌%◌, ◌^◌, ◌<◌, ◌≤◌, Bool, true, false, refl, sym, ap, ap₂, ◌∙◌, subst, true≢false, arith}
use Rattle.std.specs.Prelude.{◌==◌, not, nat_lt, if◌then◌else◌, bit_xor}
use Rattle.std.specs.Int.Bits.{xor_self, xor_comm, xor_add_and}
use Rattle.std.proofs.lemmas.Nat.{and_comm, and_le_l, xor_lt}
use Rattle.std.proofs.lemmas.Bool.{eqb-true, eq-eqb, ne_eqb, ltb-true, ltb-false, le-ltb}
use Rattle.std.proofs.Math.Nat.{mod-eq_of_lt, mod_self, add-mod_right}
use mir.Val.{bits}
use Rattle.wasm_execution.specs.declared.integer.IntegerType.{IntegerType}
use Rattle.wasm_execution.specs.declared.operation.Comparison.{Comparison}
use Rattle.wasm_execution.specs.Values.{width_of}
use Rattle.wasm_execution.specs.Integer.{holds}
use Rattle.wasm_execution.specs.Operation.{comparison_of}
use Rattle.rewrite_rules.specs.Numbers.{low}
use Rattle.rewrite_rules.specs.Line.{IsRight}
use Rattle.rewrite_rules.proofs.identities.Words as line
use Rattle.rewrite_rules.proofs.identities.ComparisonNumbers.{AreOpposite}
use Rattle.rewrite_rules.proofs.identities.SignNumbers.{AreTurned, sign_turned, turned_back}
use Rattle.rewrite_rules.proofs.identities.WidthLemmas.{small, low_lt, zero_low, lit_low, ok, truth}

-- ---- comparisons

pub eq_comm : (a b : ℕ) → (a == b) ≡ (b == a)
eq_comm a b = go (a == b) (b == a) refl refl
  where
    go : (p q : Bool) → (a == b) ≡ p → (b == a) ≡ q → p ≡ q
    go true true e f = refl
    go false false e f = refl
    go true false e f = sym (eq-eqb b a (sym (eqb-true a b e))) ∙ f
    go false true e f = sym e ∙ eq-eqb a b (sym (eqb-true b a f))

-- turned around: it holds of the operands in the other order
pub turns : (f g : Comparison) →
    ((t : IntegerType) (n m : ℕ) → holds (width_of t) (comparison_of f) n m ≡ holds (width_of t) (comparison_of g) m n) →
    (t : IntegerType) → IsRight (line.turn f g t)
turns f g k t h c us vs a e = ap truth (k t (h 0) (h 1))

-- ---- tests

pub test_comparison : (t : IntegerType) → IsRight (line.test_comparison t)
test_comparison t h c us vs a e = ap (λ k. truth (h 0 == k)) (sym (zero_low t))

pub comparison_test : (t : IntegerType) → IsRight (line.comparison_test t)
comparison_test t h c us vs a e = ap (λ k. truth (h 0 == k)) (zero_low t)

-- a test of a test
pub not_truth : (b : Bool) → truth ((if b then 1 else 0) % 2 ^ 32 == 0) ≡ truth (not b)
not_truth true = refl
not_truth false = refl

pub difference_tests : (t : IntegerType) → IsRight (line.difference_tests t)
difference_tests t h c us vs a e = ap (λ k. truth (not (h 0 == k))) (zero_low t) ∙ sym (not_truth (h 0 == 0))

pub tests_difference : (t : IntegerType) → IsRight (line.tests_difference t)
tests_difference t h c us vs a e = not_truth (h 0 == 0) ∙ ap (λ k. truth (not (h 0 == k))) (sym (zero_low t))

-- a test of a test of a test
thrice : (b : Bool) → truth ((if ((if b then 1 else 0) % 2 ^ 32 == 0) then 1 else 0) % 2 ^ 32 == 0) ≡ truth b
thrice true = refl
thrice false = refl

pub tests_once : (t : IntegerType) → IsRight (line.tested_thrice t)
tests_once t h c us vs a e = thrice (h 0 == 0)

-- ---- comparisons as tests of the opposite ones

not_not : (b : Bool) → not (not b) ≡ b
not_not true = refl
not_not false = refl

pub negates : (f g : Comparison) → ((t : IntegerType) → AreOpposite t (comparison_of f) (comparison_of g)) →
    (t : IntegerType) → IsRight (line.negate f g t)
negates f g o t h c us vs a e =
    sym (not_truth (holds (width_of t) (comparison_of g) (h 0) (h 1))
    ∙ ap truth (ap not (o t (h 0) (h 1)) ∙ not_not (holds (width_of t) (comparison_of f) (h 0) (h 1))))

-- ---- tests of differences, and below 1

-- a difference is 0 of equal numbers, and of no others
difference_none : (M a b : ℕ) → a < M → b < M → ((a + (M - b)) % M == 0) ≡ (a == b)
difference_none M a b k l = go (a == b) (nat_lt a b) refl refl
  where
    go : (p q : Bool) → (a == b) ≡ p → nat_lt a b ≡ q → ((a + (M - b)) % M == 0) ≡ p
    go true q e f =
        let is = eqb-true a b e in
        let whole : a + (M - b) ≡ M = omega arith in
        eq-eqb ((a + (M - b)) % M) 0 (ap (λ n. n % M) whole ∙ mod_self M)
    go false true e f =
        let m = ltb-true a b f in
        let some : a + (M - b) ≡ 0 → ⊥ = λ z. absurd (omega arith) in
        ap (λ n. n == 0) (mod-eq_of_lt (omega arith)) ∙ ne_eqb (a + (M - b)) 0 some
    go false false e f =
        let m : b ≤ a = ltb-false a b f in
        let whole : a + (M - b) ≡ a - b + M = omega arith in
        let other : a - b ≡ 0 → ⊥ = λ z. false_true (sym e ∙ eq-eqb a b (omega arith)) in
        ap (λ n. n == 0) (ap (λ n. n % M) whole ∙ (add-mod_right (a - b) M ∙ mod-eq_of_lt (omega arith))) ∙ ne_eqb (a - b) 0 other
      where
        false_true : false ≡ true → ⊥
        false_true e = cc

pub difference_tests_equal : (t : IntegerType) → IsRight (line.tested_difference t)
difference_tests_equal t h c us vs a e = ap truth (difference_none (2 ^ bits (width_of t)) (h 0) (h 1) (small t (h 0) (a 0)) (small t (h 1) (a 1)))

-- so are the bits in which they differ
xor_none : (a b : ℕ) → (bit_xor a b == 0) ≡ (a == b)
xor_none a b = go (a == b) refl
  where
    go : (p : Bool) → (a == b) ≡ p → (bit_xor a b == 0) ≡ p
    go true e = eq-eqb (bit_xor a b) 0 (ap (bit_xor a) (sym (eqb-true a b e)) ∙ xor_self a)
    go false e =
        let sum = xor_add_and a b in
        let left = and_le_l a b in
        let right = subst (λ n. n ≤ b) (and_comm b a) (and_le_l b a) in
        ne_eqb (bit_xor a b) 0 (λ z. absurd (true≢false (sym (eq-eqb a b (omega arith)) ∙ e)))

pub difference_some : (t : IntegerType) → IsRight (line.difference_some t)
difference_some t h c us vs a e =
    let M = 2 ^ bits (width_of t) in
    sym (ap (λ k. truth (not ((h 0 + (M - h 1)) % M == k))) (zero_low t)
    ∙ ap (λ b. truth (not b)) (difference_none M (h 0) (h 1) (small t (h 0) (a 0)) (small t (h 1) (a 1))))

xor_low : (t : IntegerType) (n m : ℕ) → n < 2 ^ bits (width_of t) → m < 2 ^ bits (width_of t) → (low t (bit_xor n m) == 0) ≡ (n == m)
xor_low t n m k l = ap (λ x. x == 0) (mod-eq_of_lt (xor_lt (bits (width_of t)) n m k l)) ∙ xor_none n m

pub bits_none : (t : IntegerType) → IsRight (line.bits_none t)
bits_none t h c us vs a e = sym (ap truth (xor_low t (h 0) (h 1) (small t (h 0) (a 0)) (small t (h 1) (a 1))))

pub bits_some : (t : IntegerType) → IsRight (line.bits_some t)
bits_some t h c us vs a e =
    sym (ap (λ k. truth (not (low t (bit_xor (h 0) (h 1)) == k))) (zero_low t)
    ∙ ap (λ b. truth (not b)) (xor_low t (h 0) (h 1) (small t (h 0) (a 0)) (small t (h 1) (a 1))))

-- ---- with the highest bit turned

pub turns_signs : (f g : Comparison) → ((t : IntegerType) → AreTurned t (comparison_of f) (comparison_of g)) → (t : IntegerType) →
    IsRight (line.sign_turned f g t)
turns_signs f g k t h c us vs a e = ap truth (k t (h 0) (h 1) (small t (h 0) (a 0)) (small t (h 1) (a 1)))

-- where that of the first one was turned, it may be that of the second one
pub moves_sign : (f g : Comparison) → ((t : IntegerType) → AreTurned t (comparison_of f) (comparison_of g)) → (t : IntegerType) →
    IsRight (line.sign_moved f g t)
moves_sign f g k t h c us vs a e =
    let s : ℕ = low t (2 ^ (bits (width_of t) - 1)) in
    ap truth (k t (sign_turned t (h 0)) (h 1) (low_lt t (bit_xor (h 0) s)) (small t (h 1) (a 1))
    ∙ ap₂ (holds (width_of t) (comparison_of g)) (turned_back t (h 0) (small t (h 0) (a 0))) (ap (low t) (xor_comm (h 1) s)))

pub one_below : (t : IntegerType) → IsRight (line.is_below_one t)
one_below t h c us vs a e = ap (λ k. truth (nat_lt (h 0) k)) (lit_low t 1 (omega arith)) ∙ ap truth (go (h 0))
  where
    go : (n : ℕ) → nat_lt n 1 ≡ (n == 0)
    go zero = refl
    go (suc n) = le-ltb (suc n) 1 (omega arith) ∙ sym (ne_eqb (suc n) 0 (λ z. absurd (omega arith)))

-- ---- selects

pub select_turns : IsRight line.select_turned
select_turns h c us vs a e = go (h 2 == 0)
  where
    go : (b : Bool) → ok (if b then h 1 else h 0) ≡ ok (if ((if b then 1 else 0) % 2 ^ 32 == 0) then h 0 else h 1)
    go true = refl
    go false = refl

pub select_drops : IsRight line.select_same
select_drops h c us vs a e = go (h 2 == 0)
  where
    go : (b : Bool) → ok (if b then h 0 else h 0) ≡ ok (h 0)
    go true = refl
    go false = refl
