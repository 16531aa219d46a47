-- Lines that count the bits of numbers are right.
use Rattle.std.proofs.Common.{◌≡◌, ℕ, zero, suc, ◌+◌, ◌-◌, ◌/◌, ◌%◌, ◌^◌, ◌<◌, ◌≤◌, Bool, true, false, refl, sym, ap, ap₂, ◌∙◌, true≢false, arith}
use Rattle.std.specs.Prelude.{◌==◌, not, if◌then◌else◌, bit_xor}
use Rattle.std.specs.Int.{Width, leading_zeros, trailing_zeros}
use Rattle.std.specs.Int.Bits.{xor_add_and}
use Rattle.std.specs.Int.Count.{leading_of_zero, trailing_of_zero}
use Rattle.std.proofs.Math.Nat.{mod-eq_of_lt, add-mod_right, pow-suc}
use Rattle.std.proofs.lemmas.Bool.{eqb-true, eq-eqb, ne_eqb}
use Rattle.std.proofs.lemmas.Nat.{pow_pos, and_mask, leading_le, leading_top, trailing_le}
use Rattle.std.proofs.lemmas.Nat.Bits.{bit_at-trailing_zeros}
use mir.Val.{bits}
use Rattle.wasm_execution.specs.declared.integer.IntegerType.{IntegerType}
use Rattle.wasm_execution.specs.declared.integer.IntegerType.TheVariants as integer
use Rattle.wasm_execution.specs.declared.operation.Unary.{Unary}
use Rattle.wasm_execution.specs.declared.operation.Unary.TheVariants.{Clz, Ctz}
use Rattle.wasm_execution.specs.declared.operation.Comparison.{Comparison}
use Rattle.wasm_execution.specs.Values.{width_of}
use Rattle.wasm_execution.specs.Integer.{ones_in, unary_value, holds}
use Rattle.wasm_execution.specs.Operation.{unary_of, comparison_of}
use Rattle.rewrite_rules.specs.Numbers.{low}
use Rattle.rewrite_rules.specs.Line.{IsRight}
use Rattle.rewrite_rules.specs.declared.table.integers.TheConstants.{ZERO_COUNTS}
use Rattle.rewrite_rules.specs.Table.{rows_of}
use Rattle.rewrite_rules.proofs.identities.RowLemmas.{AtRows, ◌▸◌, turned}
use Rattle.rewrite_rules.proofs.identities.Words as line
use Rattle.rewrite_rules.proofs.identities.ComparisonIdentities.{not_truth}
use Rattle.rewrite_rules.proofs.identities.NumberLemmas.{below_power}
use Rattle.rewrite_rules.proofs.identities.WidthLemmas.{small, ones_low, ok, truth}

-- ---- bits that are set

-- in a number and in its complement all are set
ones_in_both : (k n : ℕ) → n < 2 ^ k → ones_in k (2 ^ k - 1 - n) + ones_in k n ≡ k
ones_in_both zero n l = refl
ones_in_both (suc k) n l =
    let double = pow-suc 2 k in
    let p = pow_pos k in
    let half : n / 2 < 2 ^ k = omega arith in
    let rest : (2 ^ suc k - 1 - n) / 2 ≡ 2 ^ k - 1 - n / 2 = omega arith in
    let last : (2 ^ suc k - 1 - n) % 2 + n % 2 ≡ 1 = omega arith in
    let others = ones_in_both k (n / 2) half in
    let moved = ap (ones_in k) rest in
    omega arith

complement_is : (k n : ℕ) → n < 2 ^ k → bit_xor n (2 ^ k - 1) ≡ 2 ^ k - 1 - n
complement_is k n l =
    let sum = xor_add_and n (2 ^ k - 1) in
    let same = and_mask n k ∙ mod-eq_of_lt l in
    omega arith

of_zero : (k : ℕ) → ones_in k 0 ≡ 0
of_zero zero = refl
of_zero (suc k) = let e = of_zero k in omega arith

none_is : (k n : ℕ) → n < 2 ^ k → ones_in k n ≡ 0 → n ≡ 0
none_is zero n l e = omega arith
none_is (suc k) n l e =
    let double = pow-suc 2 k in
    let half : n / 2 < 2 ^ k = omega arith in
    let rest : ones_in k (n / 2) ≡ 0 = omega arith in
    let none = none_is k (n / 2) half rest in
    let last : n % 2 ≡ 0 = omega arith in
    omega arith

none_set : (k n : ℕ) → n < 2 ^ k → (ones_in k n == 0) ≡ (n == 0)
none_set k n l = go (n == 0) refl
  where
    go : (p : Bool) → (n == 0) ≡ p → (ones_in k n == 0) ≡ p
    go true e = eq-eqb (ones_in k n) 0 (ap (ones_in k) (eqb-true n 0 e) ∙ of_zero k)
    go false e = ne_eqb (ones_in k n) 0 (λ z. absurd (true≢false (sym (eq-eqb n 0 (none_is k n l z)) ∙ e)))

-- ---- bits below the lowest one

all_below : (w : Width) (n : ℕ) → n < 2 ^ bits w → (trailing_zeros w n == bits w) ≡ (n == 0)
all_below w zero l = eq-eqb (trailing_zeros w 0) (bits w) (trailing_of_zero (bits w))
all_below w (suc n) l =
    let place = (bit_at-trailing_zeros w (suc n) (omega arith) l).0 in
    ne_eqb (trailing_zeros w (suc n)) (bits w) (λ z. absurd (omega arith)) ∙ sym (ne_eqb (suc n) 0 (λ z. absurd (omega arith)))

-- those above the highest one
all_above : (w : Width) (n : ℕ) → n < 2 ^ bits w → (leading_zeros w n == bits w) ≡ (n == 0)
all_above w zero l = eq-eqb (leading_zeros w 0) (bits w) (leading_of_zero (bits w))
all_above w (suc n) l =
    let sum = (leading_top (bits w) (suc n) (omega arith) l).1 in
    ne_eqb (leading_zeros w (suc n)) (bits w) (λ z. absurd (omega arith)) ∙ sym (ne_eqb (suc n) 0 (λ z. absurd (omega arith)))

-- ---- lines

-- a count is a number of few bits itself
count_low : (t : IntegerType) (n : ℕ) → n ≤ bits (width_of t) → low t n ≡ n
count_low integer.I32 n l = mod-eq_of_lt (omega arith)
count_low integer.I64 n l = mod-eq_of_lt (omega arith)

set_low : (t : IntegerType) (n : ℕ) → n < 2 ^ bits (width_of t) → low t (ones_in (bits (width_of t)) n) ≡ ones_in (bits (width_of t)) n
set_low t n l = let both = ones_in_both (bits (width_of t)) n l in count_low t (ones_in (bits (width_of t)) n) (omega arith)

pub test_by_popcnt : (t : IntegerType) → IsRight (line.test_by_popcnt t)
test_by_popcnt t h c us vs a e =
    let l = small t (h 0) (a 0) in
    sym (ap (λ k. truth (k == 0)) (set_low t (h 0) l) ∙ ap truth (none_set (bits (width_of t)) (h 0) l))

-- of 0 the zeros that are counted are all of its bits, and of no other number
abbrev pub CountsAll : Unary → Type 0
CountsAll f =
    (t : IntegerType) (n : ℕ) → n < 2 ^ bits (width_of t) →
    (low t (unary_value (width_of t) (unary_of f) n) == low t (bits (width_of t))) ≡ (n == 0)

-- a count and the width are numbers of the width
both_low : (t : IntegerType) (i : ℕ) → i ≤ bits (width_of t) → (low t i == low t (bits (width_of t))) ≡ (i == bits (width_of t))
both_low t i l = ap₂ (λ j k. j == k) (count_low t i l) (count_low t (bits (width_of t)) (omega arith))

pub by_ctz : CountsAll Ctz
by_ctz t n l = let w = width_of t in both_low t (trailing_zeros w n) (trailing_le (bits w) n) ∙ all_below w n l

by_clz : CountsAll Clz
by_clz t n l = let w = width_of t in both_low t (leading_zeros w n) (leading_le (bits w) n) ∙ all_above w n l

pub test_by_zeros : (f : Unary) → CountsAll f → (t : IntegerType) → IsRight (line.test_by_zeros f t)
test_by_zeros f k t h c us vs a e = sym (ap truth (k t (h 0) (small t (h 0) (a 0))))

pub tests_by_zeros : (f : Unary) → CountsAll f → (t : IntegerType) → IsRight (line.tests_by_zeros f t)
tests_by_zeros f k t h c us vs a e = ap (λ b. truth (not b)) (k t (h 0) (small t (h 0) (a 0))) ∙ sym (not_truth (h 0 == 0))

-- a truth value is how many of its bits are set
truth_counted : (b : Bool) → ok (ones_in 32 ((if b then 1 else 0) % 2 ^ 32) % 2 ^ 32) ≡ truth b
truth_counted true = refl
truth_counted false = refl

pub test_counted : (t : IntegerType) → IsRight (line.counted_test t)
test_counted t h c us vs a e = truth_counted (h 0 == 0)

pub comparison_counted : (f : Comparison) → (t : IntegerType) → IsRight (line.counted_comparison f t)
comparison_counted f t h c us vs a e = truth_counted (holds (width_of t) (comparison_of f) (h 0) (h 1))

pub popcnt_of_complement : (t : IntegerType) → IsRight (line.popcnt_of_complement t)
popcnt_of_complement t h c us vs a e =
    let k = bits (width_of t) in
    let M = 2 ^ k in
    let l = small t (h 0) (a 0) in
    let m : ℕ = M - 1 - h 0 in
    let p = pow_pos k in
    let below : m < M = omega arith in
    let both = ones_in_both k (h 0) l in
    let wide = below_power k in
    let other : low t (bit_xor (h 0) (low t (M - 1))) ≡ m =
    ap (λ i. low t (bit_xor (h 0) i)) (ones_low t) ∙ (ap (low t) (complement_is k (h 0) l) ∙ mod-eq_of_lt below) in
    let sum : k + (M - ones_in k m) ≡ ones_in k (h 0) + M = omega arith in
    sym (ap₂ (λ i j. ok (low t (i + (M - low t (ones_in k j))))) (count_low t k (omega arith)) other
    ∙ (ap (λ i. ok (low t (k + (M - i)))) (set_low t m below) ∙ ap ok (ap (low t) sum ∙ add-mod_right (ones_in k (h 0)) M)))

-- ---- rows

pub zero_counts_right : AtRows IsRight (rows_of ZERO_COUNTS)
zero_counts_right =
    test_by_zeros Clz by_clz integer.I32
    ▸ test_by_zeros Clz by_clz integer.I64
    ▸ turned (line.test_by_zeros Clz) (test_by_zeros Clz by_clz) integer.I32
    ▸ turned (line.test_by_zeros Clz) (test_by_zeros Clz by_clz) integer.I64
    ▸ tests_by_zeros Clz by_clz integer.I32
    ▸ tests_by_zeros Clz by_clz integer.I64
    ▸ tt
