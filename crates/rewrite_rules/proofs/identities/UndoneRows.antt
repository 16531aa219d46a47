-- The rows that turn back what other rows on signs, powers of two and low bits made are right.
use Rattle.std.proofs.Common.{◌≡◌, ℕ, ◌+◌, ◌-◌, ◌/◌, ◌%◌, ◌^◌, ◌<◌, true, sym, ap, ◌∙◌, arith}
use Rattle.std.specs.Prelude.{pos, not, ◌==◌, ◌&&◌, nat_lt, nat_le, int_lt, if◌then◌else◌}
use Rattle.std.specs.Int.{Width, cast_signed, cast_unsigned, int_shr, w8, w16, w32, w64}
use Rattle.std.proofs.lemmas.Bool.{ltb-true, and_parts}
use Rattle.std.proofs.lemmas.Nat.{pow_pos, pow_below}
use Rattle.std.proofs.Math.Nat.{mod-eq_of_lt, div-le_self}
use mir.Val.{bits}
use Rattle.wasm_types.specs.declared.types.PrimitiveTypeInfo.{PrimitiveTypeInfo}
use Rattle.wasm_types.specs.declared.types.PrimitiveTypeInfo.TheVariants.{I32, I64}
use Rattle.wasm_execution.specs.declared.integer.IntegerType.{IntegerType}
use Rattle.wasm_execution.specs.declared.integer.IntegerType.TheVariants as integer
use Rattle.wasm_execution.specs.declared.operation.Comparison.TheVariants.{LtU, GtU, LeU, GeU}
use Rattle.wasm_execution.specs.Integer.{signed_into}
use Rattle.wasm_execution.specs.Values.{width_of}
use Rattle.rewrite_rules.specs.declared.table.integers.TheConstants.{UNDONE}
use Rattle.rewrite_rules.specs.Numbers.{low, lowest_bit}
use Rattle.rewrite_rules.specs.Line.{IsRight}
use Rattle.rewrite_rules.specs.Table.{rows_of}
use Rattle.rewrite_rules.proofs.identities.Words as line
use Rattle.rewrite_rules.proofs.identities.ComparisonNumbers.{le_is, lt_is}
use Rattle.rewrite_rules.proofs.identities.ExtensionIdentities.{low_8_in_32, low_16_in_32, low_8_in_64, low_16_in_64}
use Rattle.rewrite_rules.proofs.identities.HalfIdentities.{half_32}
use Rattle.rewrite_rules.proofs.identities.LaneMoveIdentities.{Moves, onward}
use Rattle.rewrite_rules.proofs.identities.NeutralIdentities.{not_large}
use Rattle.rewrite_rules.proofs.identities.PowerTestIdentities.{quotient_none, at_most_is}
use Rattle.rewrite_rules.proofs.identities.RowLemmas.{AtRows, ◌▸◌}
use Rattle.rewrite_rules.proofs.identities.SignTestIdentities.{sign_32_is, spread_32_is}
use Rattle.rewrite_rules.proofs.identities.WidthLemmas.{small, zero_low, ok, truth}

-- ---- powers of two

-- what is left above a place
above_place : (t : IntegerType) (a m : ℕ) → a < 2 ^ bits (width_of t) → m < bits (width_of t) →
    (low t (a / 2 ^ (m % bits (width_of t))) == 0) ≡ nat_lt a (low t (2 ^ m))
above_place t a m l k =
    let few = div-le_self a (2 ^ m) in
    ap (λ i. low t (a / 2 ^ i) == 0) (mod-eq_of_lt k) ∙ (ap (λ q. q == 0) (mod-eq_of_lt (omega arith))
    ∙ (quotient_none a (2 ^ m) (pow_pos m) ∙ ap (nat_lt a) (sym (mod-eq_of_lt (pow_below m (bits (width_of t)) k)))))

shift_below : (t : IntegerType) → IsRight (line.shift_below t)
shift_below t h c us vs a e =
    let m = low t (c 0) in
    let k = bits (width_of t) in
    ap truth (above_place t (h 0) m (small t (h 0) (a 0)) (ltb-true m k (and_parts (nat_lt m k) true e).0))

shift_from : (t : IntegerType) → IsRight (line.shift_from t)
shift_from t h c us vs a e =
    let m = low t (c 0) in
    let k = bits (width_of t) in
    let q = low t (h 0 / 2 ^ (m % k)) in
    ap (λ z. truth (not (q == z))) (zero_low t)
    ∙ ap truth (ap not (above_place t (h 0) m (small t (h 0) (a 0)) (ltb-true m k (and_parts (nat_lt m k) true e).0)) ∙ sym (le_is (low t (2 ^ m)) (h 0)))

-- the number behind one that is below all ones
next_low : (t : IntegerType) (n : ℕ) →
    ((nat_lt n (2 ^ bits (width_of t) - 1) && (2 ^ lowest_bit t (n + 1) == n + 1)) && true) ≡ true → low t (n + 1) ≡ n + 1
next_low t n e =
    let M : ℕ = 2 ^ bits (width_of t) in
    let q = (and_parts (nat_lt n (M - 1) && (2 ^ lowest_bit t (n + 1) == n + 1)) true e).0 in
    let l = ltb-true n (M - 1) (and_parts (nat_lt n (M - 1)) (2 ^ lowest_bit t (n + 1) == n + 1) q).0 in
    mod-eq_of_lt (omega arith)

-- at most a number, or below the one behind it
below_next : (a n : ℕ) → nat_le a n ≡ nat_lt a (n + 1)
below_next a n = let back : n ≡ n + 1 - 1 = omega arith in ap (nat_le a) back ∙ at_most_is a (n + 1) (omega arith)

at_most_is_below : (t : IntegerType) → IsRight (line.mask_bound LeU LtU t)
at_most_is_below t h c us vs a e =
    let n = low t (c 0) in
    ap truth (below_next (h 0) n ∙ ap (nat_lt (h 0)) (sym (next_low t n e)))

above_is_from : (t : IntegerType) → IsRight (line.mask_bound GtU GeU t)
above_is_from t h c us vs a e =
    let n = low t (c 0) in
    ap truth (lt_is n (h 0) ∙ (ap not (below_next (h 0) n) ∙ (sym (le_is (n + 1) (h 0)) ∙ ap (λ m. nat_le m (h 0)) (sym (next_low t n e)))))

-- ---- signs

-- the test of a sign, taken from 0, and added to half a number
abbrev negated_sign : Moves I32
negated_sign = record {
  left = λ n. (0 + (2 ^ 32 - (if int_lt (cast_signed w32 n) (pos 0) then 1 else 0) % 2 ^ 32)) % 2 ^ 32;
  right = λ n. cast_unsigned w32 (int_shr (cast_signed w32 n) 31) % 2 ^ 32;
  same = λ n l. ap (λ i. (0 + (2 ^ 32 - i)) % 2 ^ 32) (sign_32_is n l) ∙ sym (spread_32_is n l);
}

half_by_test : IsRight line.half_by_test
half_by_test h c us vs a e =
    ap (λ i. ok (cast_unsigned w32 (int_shr (cast_signed w32 ((h 0 + i) % 2 ^ 32)) 1) % 2 ^ 32)) (sign_32_is (h 0) (a 0))
    ∙ (sym (ap ok (half_32 (h 0) (a 0))) ∙ sym (not_large integer.I32 (h 0 == 2 ^ 31) _ _))

-- ---- low bits

-- what is left by a power of two
abbrev then_left : (t : PrimitiveTypeInfo) (w v : Width) → ((n : ℕ) → signed_into v w n % 2 ^ bits w % 2 ^ bits v ≡ n % 2 ^ bits v) → Moves t
then_left t w v k = record {
  left = λ n. signed_into v w n % 2 ^ bits w % 2 ^ bits v % 2 ^ bits w;
  right = λ n. n % 2 ^ bits v % 2 ^ bits w;
  same = λ n l. ap (λ i. i % 2 ^ bits w) (k n);
}

-- ---- rows

pub undone_right : AtRows IsRight (rows_of UNDONE)
undone_right =
    shift_below
    ▸ shift_from
    ▸ at_most_is_below
    ▸ above_is_from
    ▸ onward I32 negated_sign
    ▸ half_by_test
    ▸ onward I32 (then_left I32 w32 w8 low_8_in_32)
    ▸ onward I32 (then_left I32 w32 w16 low_16_in_32)
    ▸ onward I64 (then_left I64 w64 w8 low_8_in_64)
    ▸ onward I64 (then_left I64 w64 w16 low_16_in_64)
    ▸ tt
