-- Comparisons with powers of two, by shifts and by the numbers before them, are right.
use Rattle.std.proofs.Common.{◌≡◌, ℕ, ◌-◌, ◌/◌, ◌%◌, ◌^◌, ◌<◌, ◌≤◌, Bool, true, false, refl, sym, ap, ◌∙◌, subst, arith}
use Rattle.std.specs.Prelude.{◌==◌, not, nat_lt, nat_le}
use Rattle.std.proofs.lemmas.Bool.{lt-ltb, le-ltb, ltb-true, ltb-false, eq-eqb, ne_eqb}
use Rattle.std.proofs.lemmas.Nat.{pow_pos, le-div}
use Rattle.std.proofs.Math.Nat.{mod-eq_of_lt, div-le_self, div-eq_of_lt}
use mir.Val.{bits}
use Rattle.wasm_execution.specs.declared.integer.IntegerType.{IntegerType}
use Rattle.wasm_execution.specs.declared.operation.Comparison.TheVariants.{LtU, GtU, LeU, GeU}
use Rattle.wasm_execution.specs.Values.{width_of}
use Rattle.rewrite_rules.specs.declared.table.integers.TheConstants.{POWER_TESTS}
use Rattle.rewrite_rules.specs.Numbers.{low, lowest_bit}
use Rattle.rewrite_rules.specs.Line.{IsRight}
use Rattle.rewrite_rules.specs.Table.{rows_of}
use Rattle.rewrite_rules.proofs.identities.Words as line
use Rattle.rewrite_rules.proofs.identities.ComparisonNumbers.{le_is, lt_is}
use Rattle.rewrite_rules.proofs.identities.ConstantIdentities.{power_is}
use Rattle.rewrite_rules.proofs.identities.NumberLemmas.{bit_place}
use Rattle.rewrite_rules.proofs.identities.RowLemmas.{AtRows, ◌▸◌}
use Rattle.rewrite_rules.proofs.identities.WidthLemmas.{small, low_lt, zero_low, place_lt, truth}

-- ---- numbers

-- a quotient is 0 of lesser numbers, and of no others
pub quotient_none : (a n : ℕ) → 0 < n → (a / n == 0) ≡ nat_lt a n
quotient_none a n p = go (nat_lt a n) refl
  where
    go : (b : Bool) → nat_lt a n ≡ b → (a / n == 0) ≡ b
    go true e = eq-eqb (a / n) 0 (div-eq_of_lt (ltb-true a n e))
    go false e =
        let large : n ≤ a = ltb-false a n e in
        let some = le-div 1 a n p (omega arith) in
        ne_eqb (a / n) 0 (λ z. absurd (omega arith))

-- below a number, or at most the one before it
pub at_most_is : (a n : ℕ) → 0 < n → nat_le a (n - 1) ≡ nat_lt a n
at_most_is a n p = le_is a (n - 1) ∙ go (nat_lt a n) refl
  where
    go : (b : Bool) → nat_lt a n ≡ b → not (nat_lt (n - 1) a) ≡ b
    go true e = let l = ltb-true a n e in ap not (le-ltb (n - 1) a (omega arith))
    go false e = let large : n ≤ a = ltb-false a n e in ap not (lt-ltb (n - 1) a (omega arith))

-- ---- a power of two

power_positive : (t : IntegerType) (n : ℕ) → 2 ^ lowest_bit t n ≡ n → 0 < n
power_positive t n p = subst (λ i. 0 < i) p (pow_pos (lowest_bit t n))

-- what is left above its place
shifted : (t : IntegerType) (a n : ℕ) → a < 2 ^ bits (width_of t) → 2 ^ lowest_bit t n ≡ n →
    (low t (a / 2 ^ (low t (lowest_bit t n) % bits (width_of t))) == 0) ≡ nat_lt a n
shifted t a n l p =
    let few = div-le_self a n in
    ap (λ q. q == 0) (sym (bit_place (bits (width_of t)) a n (lowest_bit t n) (place_lt t n) p) ∙ mod-eq_of_lt (omega arith))
    ∙ quotient_none a n (power_positive t n p)

-- the number before it
previous_low : (t : IntegerType) (n : ℕ) → low t (low t n - 1) ≡ low t n - 1
previous_low t n = let l = low_lt t n in mod-eq_of_lt (omega arith)

-- ---- lines

below_power : (t : IntegerType) → IsRight (line.below_power t)
below_power t h c us vs a e =
    let n = low t (c 0) in
    sym (ap truth (shifted t (h 0) n (small t (h 0) (a 0)) (power_is t n e)))

from_power : (t : IntegerType) → IsRight (line.from_power t)
from_power t h c us vs a e =
    let n = low t (c 0) in
    let q = low t (h 0 / 2 ^ (low t (lowest_bit t n) % bits (width_of t))) in
    ap truth (le_is n (h 0) ∙ ap not (sym (shifted t (h 0) n (small t (h 0) (a 0)) (power_is t n e))))
    ∙ ap (λ k. truth (not (q == k))) (sym (zero_low t))

below_is_at_most : (t : IntegerType) → IsRight (line.power_bound LtU LeU t)
below_is_at_most t h c us vs a e =
    let n = low t (c 0) in
    ap truth (sym (at_most_is (h 0) n (power_positive t n (power_is t n e))) ∙ ap (nat_le (h 0)) (sym (previous_low t (c 0))))

from_is_above : (t : IntegerType) → IsRight (line.power_bound GeU GtU t)
from_is_above t h c us vs a e =
    let n = low t (c 0) in
    ap truth (le_is n (h 0) ∙ (ap not (sym (at_most_is (h 0) n (power_positive t n (power_is t n e))))
    ∙ (sym (lt_is (n - 1) (h 0)) ∙ ap (λ m. nat_lt m (h 0)) (sym (previous_low t (c 0))))))

-- ---- rows

pub power_tests_right : AtRows IsRight (rows_of POWER_TESTS)
power_tests_right = below_power ▸ from_power ▸ below_is_at_most ▸ from_is_above ▸ tt
