-- Lines that say the same by another operator with another constant are right.
use Rattle.std.proofs.Common.{◌≡◌, ℕ, ℤ, zero, suc, ◌+◌, ◌-◌, ◌*◌, ◌/◌, ◌%◌, ◌^◌, ◌<◌, true, Some, refl, sym, ap, ◌∙◌, subst, arith}
use Rattle.std.specs.Prelude.{pos, negsuc, neg_ℤ, int_rem, bit_or, ◌==◌, ◌&&◌, nat_lt}
use Rattle.std.specs.Int.{w32, w64, cast_signed, cast_unsigned, rotate_left, rotate_right}
use Rattle.std.proofs.lemmas.Bool.{eqb-true, ltb-true, and_parts}
use Rattle.std.proofs.lemmas.Nat.{pow_pos, pow_below}
use Rattle.std.proofs.Math.Nat.{mod-eq_of_lt, mod-lt, div-le_self, mod-add-mod, add-mod-mod}
use mir.Val.{bits}
use Rattle.wasm_execution.specs.declared.integer.IntegerType.{IntegerType}
use Rattle.wasm_execution.specs.declared.integer.IntegerType.TheVariants as integer
use Rattle.wasm_execution.specs.declared.operation.Binary.TheVariants.{Shl, ShrU, Rotl, Rotr}
use Rattle.wasm_execution.specs.Values.{width_of, Cause}
use Rattle.wasm_execution.specs.Integer.{unless_zero}
use Rattle.wasm_execution.specs.Computed.{kept}
use Rattle.rewrite_rules.specs.declared.pattern.Number.TheVariants.{Literal, Ones}
use Rattle.rewrite_rules.specs.Numbers.{or_cause, low, lowest_bit}
use Rattle.rewrite_rules.specs.Line.{IsRight}
use Rattle.rewrite_rules.proofs.identities.Words as line
use Rattle.rewrite_rules.proofs.identities.NumberLemmas.{sum_is, difference_is, product_is, shift_is, turned_right, turned_left, quotient_is, bit_place}
use Rattle.rewrite_rules.proofs.identities.NumberLemmas.{remainder_is, mask_is, doubled, times_last}
use Rattle.rewrite_rules.proofs.identities.WidthLemmas.{small, low_lt, zero_low, lit_low, ones_low, width_positive, place_lt, ok}

-- ---- products and sums

pub product_double : (t : IntegerType) → IsRight (line.product_double t)
product_double t h c us vs a e = ap (λ k. ok (low t (h 0 * k))) (lit_low t 2 (omega arith)) ∙ ap (λ k. ok (low t k)) (doubled (h 0))

pub shift_double : (t : IntegerType) → IsRight (line.shift_double t)
shift_double integer.I32 h c us vs a e = ap (λ k. ok (low integer.I32 k)) (doubled (h 0))
shift_double integer.I64 h c us vs a e = ap (λ k. ok (low integer.I64 k)) (doubled (h 0))

pub difference_sum : (t : IntegerType) → IsRight (line.difference_sum t)
difference_sum t h c us vs a e = ap ok (sum_is (2 ^ bits (width_of t)) (h 0) (low t (c 0)))

pub sum_difference : (t : IntegerType) → IsRight (line.sum_difference t)
sum_difference t h c us vs a e = ap ok (difference_is (2 ^ bits (width_of t)) (h 0) (low t (c 0)) (low_lt t (c 0)))

pub sum_joins : (t : IntegerType) → IsRight (line.join_sum t)
sum_joins t h c us vs a e =
    let M = 2 ^ bits (width_of t) in
    let k : h 0 + low t (c 0) + c 1 ≡ h 0 + c 1 + low t (c 0) = omega arith in
    let j : h 0 + c 1 + c 0 ≡ h 0 + (c 0 + c 1) = omega arith in
    ap ok (mod-add-mod (h 0 + low t (c 0)) M (low t (c 1)) ∙ (add-mod-mod (h 0 + low t (c 0)) (c 1) M ∙ (ap (low t) k
    ∙ (add-mod-mod (h 0 + c 1) (c 0) M ∙ (ap (low t) j ∙ sym (add-mod-mod (h 0) (c 0 + c 1) M))))))

pub product_negates : (t : IntegerType) → IsRight (line.negated_product t)
product_negates t h c us vs a e =
    let M = 2 ^ bits (width_of t) in
    ap (λ k. ok (low t (h 0 * k))) (ones_low t)
    ∙ (ap ok (times_last M (h 0) (small t (h 0) (a 0))) ∙ ap (λ k. ok (low t (k + (M - h 0)))) (sym (zero_low t)))

-- ---- shifts, quotients, remainders

pub shift_product : (t : IntegerType) → IsRight (line.shift_product t)
shift_product t h c us vs a e =
    let k = bits (width_of t) in
    let n = low t (c 0) in
    ap ok (product_is k (h 0) n (ltb-true n k (and_parts (nat_lt n k) true e).0))

-- a constant that is a power of two is the one of its lowest bit
pub power_is : (t : IntegerType) (n : ℕ) → ((2 ^ lowest_bit t n == n) && true) ≡ true → 2 ^ lowest_bit t n ≡ n
power_is t n e = eqb-true (2 ^ lowest_bit t n) n (and_parts (2 ^ lowest_bit t n == n) true e).0

pub product_shift : (t : IntegerType) → IsRight (line.product_shift t)
product_shift t h c us vs a e =
    let n = low t (c 0) in
    ap ok (shift_is (bits (width_of t)) (h 0) n (lowest_bit t n) (place_lt t n) (power_is t n e))

-- a divisor that is not 0
divides : (d n : ℕ) → 0 < d → unless_zero d n ≡ Some n
divides zero n l = absurd (omega arith)
divides (suc d) n l = refl

divided : (t : IntegerType) (d n : ℕ) (cause : Cause) → 0 < d → or_cause (kept (width_of t) (unless_zero d n)) cause ≡ ok (low t n)
divided t d n cause l = ap (λ o. or_cause (kept (width_of t) o) cause) (divides d n l)

pub shift_quotient : (t : IntegerType) → IsRight (line.shift_quotient t)
shift_quotient t h c us vs a e =
    let k = bits (width_of t) in
    let n = low t (c 0) in
    let l = ltb-true n k (and_parts (nat_lt n k) true e).0 in
    let p = pow_pos n in
    ap ok (quotient_is k (h 0) n l)
    ∙ sym (divided t (low t (2 ^ n)) (h 0 / low t (2 ^ n)) _ (subst (λ i. 0 < i) (sym (mod-eq_of_lt (pow_below n k l))) p))

pub quotient_shift : (t : IntegerType) → IsRight (line.quotient_shift t)
quotient_shift t h c us vs a e =
    let n = low t (c 0) in
    let p = power_is t n e in
    divided t n (h 0 / n) _ (subst (λ i. 0 < i) p (pow_pos (lowest_bit t n)))
    ∙ ap ok (bit_place (bits (width_of t)) (h 0) n (lowest_bit t n) (place_lt t n) p)

pub remainder_mask : (t : IntegerType) → IsRight (line.remainder_mask t)
remainder_mask t h c us vs a e =
    let n = low t (c 0) in
    let p = power_is t n e in
    divided t n (h 0 % n) _ (subst (λ i. 0 < i) p (pow_pos (lowest_bit t n)))
    ∙ ap ok (remainder_is (bits (width_of t)) (h 0) n (lowest_bit t n) (place_lt t n) p)

pub mask_remainder : (t : IntegerType) → IsRight (line.mask_remainder t)
mask_remainder t h c us vs a e =
    let k = bits (width_of t) in
    let n = low t (c 0) in
    let m = lowest_bit t (n + 1) in
    let q = (and_parts (nat_lt n (2 ^ k - 1) && (2 ^ m == n + 1)) true e).0 in
    let p = eqb-true (2 ^ m) (n + 1) (and_parts (nat_lt n (2 ^ k - 1)) (2 ^ m == n + 1) q).1 in
    let fits = subst (λ i. i < 2 ^ k) p (pow_below m k (place_lt t (n + 1))) in
    let some : 0 < n + 1 = omega arith in
    ap ok (mask_is k (h 0) n m (place_lt t (n + 1)) p)
    ∙ sym (divided t (low t (n + 1)) (h 0 % low t (n + 1)) _ (subst (λ i. 0 < i) (sym (mod-eq_of_lt fits)) some))

-- by 1
one_is : (t : IntegerType) → low t 1 ≡ 1
one_is t = lit_low t 1 (omega arith)

some_one : (t : IntegerType) → 0 < low t 1
some_one t = let e = one_is t in omega arith

pub remainder_one : (t : IntegerType) → IsRight (line.remainder_by_one t)
remainder_one t h c us vs a e =
    let l = mod-lt (h 0) (some_one t) in
    let one = one_is t in
    let none : h 0 % low t 1 ≡ 0 = omega arith in
    divided t (low t 1) (h 0 % low t 1) _ (some_one t) ∙ ap (λ k. ok (low t k)) none

-- nothing is left by 1, nor by -1
left_by_one : (n : ℕ) → n % 1 ≡ 0
left_by_one n = let l = mod-lt n (pow_pos 0) in omega arith

nothing_left : (z : ℤ) → (int_rem z (pos 1) ≡ pos 0) × (int_rem z (negsuc 0) ≡ pos 0)
nothing_left (pos a) = (ap pos (left_by_one a), ap pos (left_by_one a))
nothing_left (negsuc a) = (ap (λ n. neg_ℤ (pos n)) (left_by_one (suc a)), ap (λ n. neg_ℤ (pos n)) (left_by_one (suc a)))

pub remainder_signed_one : (t : IntegerType) → IsRight (line.signed_remainder (Literal 1) t)
remainder_signed_one integer.I32 h c us vs a e = ap (λ z. ok (low integer.I32 (cast_unsigned w32 z))) (nothing_left (cast_signed w32 (h 0))).0
remainder_signed_one integer.I64 h c us vs a e = ap (λ z. ok (low integer.I64 (cast_unsigned w64 z))) (nothing_left (cast_signed w64 (h 0))).0

pub remainder_ones : (t : IntegerType) → IsRight (line.signed_remainder Ones t)
remainder_ones integer.I32 h c us vs a e = ap (λ z. ok (low integer.I32 (cast_unsigned w32 z))) (nothing_left (cast_signed w32 (h 0))).1
remainder_ones integer.I64 h c us vs a e = ap (λ z. ok (low integer.I64 (cast_unsigned w64 z))) (nothing_left (cast_signed w64 (h 0))).1

-- ---- turns

-- what is left of a turn is below the width
rest_low : (t : IntegerType) (n : ℕ) → low t (bits (width_of t) - n % bits (width_of t)) ≡ bits (width_of t) - n % bits (width_of t)
rest_low integer.I32 n = mod-eq_of_lt (omega arith)
rest_low integer.I64 n = mod-eq_of_lt (omega arith)

pub turn_right : (t : IntegerType) → IsRight (line.turn_right t)
turn_right t h c us vs a e =
    let w = width_of t in
    let n = low t (c 0) in
    ap (λ i. ok (low t i)) (turned_right w (h 0) n (width_positive t) ∙ ap (rotate_right w (h 0)) (sym (rest_low t n)))

pub turn_left : (t : IntegerType) → IsRight (line.turn_left t)
turn_left t h c us vs a e =
    let w = width_of t in
    let n = low t (c 0) in
    ap (λ i. ok (low t i)) (turned_left w (h 0) n (width_positive t) ∙ ap (rotate_left w (h 0)) (sym (rest_low t n)))

-- ---- turns as shifts

quotient_low : (t : IntegerType) (n j : ℕ) → n < 2 ^ bits (width_of t) → low t (n / 2 ^ j) ≡ n / 2 ^ j
quotient_low t n j l = let few = div-le_self n (2 ^ j) in mod-eq_of_lt (omega arith)

pub rotl_shifts : (t : IntegerType) → IsRight (line.turn_shifts Rotl Shl ShrU t)
rotl_shifts t h c us vs a e =
    let k = bits (width_of t) in
    let m = low t (c 0) in
    let l = small t (h 0) (a 0) in
    sym (ap (λ i. ok (low t (bit_or (low t (h 0 * 2 ^ (m % k))) (low t (h 0 / 2 ^ (i % k)))))) (rest_low t m)
    ∙ ap (λ q. ok (low t (bit_or (low t (h 0 * 2 ^ (m % k))) q))) (quotient_low t (h 0) ((k - m % k) % k) l))

pub rotr_shifts : (t : IntegerType) → IsRight (line.turn_shifts Rotr ShrU Shl t)
rotr_shifts t h c us vs a e =
    let k = bits (width_of t) in
    let m = low t (c 0) in
    let l = small t (h 0) (a 0) in
    sym (ap (λ i. ok (low t (bit_or (low t (h 0 / 2 ^ (m % k))) (low t (h 0 * 2 ^ (i % k)))))) (rest_low t m)
    ∙ ap (λ q. ok (low t (bit_or q (low t (h 0 * 2 ^ ((k - m % k) % k)))))) (quotient_low t (h 0) (m % k) l))

-- where both are a whole turn, one is what the other leaves of it
other_shift : (t : IntegerType) (n m : ℕ) →
    (((n % bits (width_of t) + m % bits (width_of t)) % bits (width_of t) == 0) && true) ≡ true →
    m % bits (width_of t) ≡ (bits (width_of t) - n % bits (width_of t)) % bits (width_of t)
other_shift integer.I32 n m e = let none = eqb-true ((n % 32 + m % 32) % 32) 0 (and_parts ((n % 32 + m % 32) % 32 == 0) true e).0 in omega arith
other_shift integer.I64 n m e = let none = eqb-true ((n % 64 + m % 64) % 64) 0 (and_parts ((n % 64 + m % 64) % 64 == 0) true e).0 in omega arith

pub shifts_rotl : (t : IntegerType) → IsRight (line.shifts_turn Rotl Shl ShrU t)
shifts_rotl t h c us vs a e =
    let k = bits (width_of t) in
    let m = low t (c 0) in
    let l = small t (h 0) (a 0) in
    ap (λ i. ok (low t (bit_or (low t (h 0 * 2 ^ (m % k))) (low t (h 0 / 2 ^ i))))) (other_shift t m (low t (c 1)) e)
    ∙ ap (λ q. ok (low t (bit_or (low t (h 0 * 2 ^ (m % k))) q))) (quotient_low t (h 0) ((k - m % k) % k) l)

pub shifts_rotr : (t : IntegerType) → IsRight (line.shifts_turn Rotr ShrU Shl t)
shifts_rotr t h c us vs a e =
    let k = bits (width_of t) in
    let m = low t (c 0) in
    let l = small t (h 0) (a 0) in
    ap (λ i. ok (low t (bit_or (low t (h 0 / 2 ^ (m % k))) (low t (h 0 * 2 ^ i))))) (other_shift t m (low t (c 1)) e)
    ∙ ap (λ q. ok (low t (bit_or q (low t (h 0 * 2 ^ ((k - m % k) % k)))))) (quotient_low t (h 0) (m % k) l)
