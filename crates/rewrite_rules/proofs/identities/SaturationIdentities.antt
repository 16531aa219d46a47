-- Sums, differences, means and products of lanes that saturate or are rounded: sides that have the same number in each lane.
use Rattle.std.proofs.Common.{◌≡◌, ℕ, ◌+◌, ◌-◌, ◌/◌, ◌%◌, ◌^◌, ◌<◌, Bool, true, false, refl, sym, ap, ap₂, ◌∙◌, arith, add_comm}
use Rattle.std.proofs.Math.IntN.{+ℤ_comm, *ℤ_comm}
use Rattle.std.specs.Prelude.{pos, ◌+ℤ◌, bit_and, bit_xor, nat_lt, if◌then◌else◌, min}
use Rattle.std.specs.Int.{Width, w16, w32, cast_signed, cast_unsigned, int_shr}
use Rattle.std.specs.Int.Bits.{xor_add_and, and_comm}
use Rattle.std.proofs.lemmas.Bool.{ltb-true, ltb-false}
use Rattle.std.proofs.lemmas.Nat.{pow_pos, and_mask}
use Rattle.std.proofs.Math.Nat.{mod-eq_of_lt, mod-mod, mod_self, add-mod_right}
use mir.Val.{bits}
use Rattle.wasm_execution.specs.Conversions.{to_signed, add_sat_s, add_sat_u, sub_sat_u, average, q15_product, dot_product}
use Rattle.wasm_execution.specs.ExactRow.{halves_wide, signed_lt}
use Rattle.rewrite_rules.proofs.identities.RoundedProductNumbers.{never_least}
use Rattle.rewrite_rules.proofs.identities.LaneNumbers.{first, second, Laned, all, pair, cut, SameLanes}
use Rattle.rewrite_rules.proofs.identities.VectorIdentities.{Right, by_lanes, x, y}
use Rattle.rewrite_rules.proofs.identities.LaneIdentities.{Whole, Sides, bound, add, sub}
use Rattle.rewrite_rules.proofs.identities.LaneTestIdentities.{lt_u, picked, passed, no}

-- ---- turned

-- an operator on two numbers of a width
abbrev pub Operator : Type 0
Operator = Width → ℕ → ℕ → ℕ

abbrev pub IsTurned : Operator → Type 0
IsTurned f = (w : Width) (n m : ℕ) → f w n m ≡ f w m n

abbrev pub turned : (f : Operator) → IsTurned f → (w : Whole) → Sides w
turned f k w = record {
  left = cut (pair (f w.shape.width) x y);
  right = cut (pair (f w.shape.width) y x);
  same = λ v l. ap (λ n. n % bound w) (k w.shape.width (v first) (v second));
}

abbrev pub mean : Operator
mean w = average

abbrev pub rounded_product : Operator
rounded_product w = q15_product

abbrev pub product_sum : Operator
product_sum w = dot_product

pub signed_sum_turned : IsTurned add_sat_s
signed_sum_turned w n m = ap (to_signed w) (+ℤ_comm (cast_signed w n) (cast_signed w m))

pub sum_turned : IsTurned add_sat_u
sum_turned w n m = ap (λ k. min k (2 ^ bits w - 1)) (add_comm n m)

pub mean_turned : IsTurned mean
mean_turned w n m = ap (λ k. (k + 1) / 2) (add_comm n m)

pub rounded_product_turned : IsTurned rounded_product
rounded_product_turned w n m = ap (λ z. to_signed w16 (int_shr (z +ℤ pos (2 ^ 14)) 15)) (*ℤ_comm (cast_signed w16 n) (cast_signed w16 m))

pub product_sum_turned : IsTurned product_sum
product_sum_turned w n m =
    ap₂ (λ p q. cast_unsigned w32 (p +ℤ q)) (*ℤ_comm (cast_signed w16 (n % 2 ^ 16)) (cast_signed w16 (m % 2 ^ 16)))
    (*ℤ_comm (cast_signed w16 (n / 2 ^ 16)) (cast_signed w16 (m / 2 ^ 16)))

-- ---- by the smaller and the greater one

-- the difference is the greater one without the second one
pub difference_by_bound : (B n m : ℕ) → n < B → m < B → (n - m) % B ≡ ((if nat_lt n m then m else n) % B + (B - m)) % B
difference_by_bound B n m h l = go (nat_lt n m) refl
  where
    go : (c : Bool) → nat_lt n m ≡ c → (n - m) % B ≡ ((if c then m else n) % B + (B - m)) % B
    go true e =
        let k = ltb-true n m e in
        let none : n - m ≡ 0 = omega arith in
        let whole : m + (B - m) ≡ B = omega arith in
        let p : 0 < B = omega arith in
        ap (λ j. j % B) none ∙ (mod-eq_of_lt p ∙ sym (ap (λ j. (j + (B - m)) % B) (mod-eq_of_lt l) ∙ (ap (λ j. j % B) whole ∙ mod_self B)))
    go false e =
        let k = ltb-false n m e in
        let more : n + (B - m) ≡ n - m + B = omega arith in
        sym (ap (λ j. (j + (B - m)) % B) (mod-eq_of_lt h) ∙ (ap (λ j. j % B) more ∙ add-mod_right (n - m) B))

abbrev pub difference_is_bound : (w : Whole) → Sides w
difference_is_bound w = record {
  left = cut (pair (sub_sat_u w.shape.width) x y);
  right = sub w (passed lt_u w x y) y;
  same = λ v l. difference_by_bound (bound w) (v first) (v second) (l first) (l second);
}

-- the complement of a number is how far it is below the greatest one
pub complement : (k m : ℕ) → m < 2 ^ k → bit_xor ((2 ^ k - 1) % 2 ^ k) m ≡ 2 ^ k - 1 - m
complement k m l =
    let p = pow_pos k in
    let below : 2 ^ k - 1 < 2 ^ k = omega arith in
    let common : bit_and (2 ^ k - 1) m ≡ m = and_comm (2 ^ k - 1) m ∙ (and_mask m k ∙ mod-eq_of_lt l) in
    let all = xor_add_and (2 ^ k - 1) m in
    ap (λ j. bit_xor j m) (mod-eq_of_lt below) ∙ omega arith

-- the sum is the second one and the first one, or as much of it as the second one can be raised by
pub sum_by_bound : (B n m c : ℕ) → n < B → m < B → c ≡ B - 1 - m → min (n + m) (B - 1) % B ≡ ((if nat_lt n c then n else c) % B + m) % B
sum_by_bound B n m c h l d = go (nat_lt n c) refl
  where
    go : (b : Bool) → nat_lt n c ≡ b → min (n + m) (B - 1) % B ≡ ((if b then n else c) % B + m) % B
    go true e =
        let k = ltb-true n c e in
        let least : min (n + m) (B - 1) ≡ n + m = omega arith in
        ap (λ j. j % B) least ∙ sym (ap (λ j. (j + m) % B) (mod-eq_of_lt h))
    go false e =
        let k = ltb-false n c e in
        let below : c < B = omega arith in
        let least : min (n + m) (B - 1) ≡ c + m = omega arith in
        ap (λ j. j % B) least ∙ sym (ap (λ j. (j + m) % B) (mod-eq_of_lt below))

abbrev pub sum_is_bound : (w : Whole) → Sides w
sum_is_bound w = record {
  left = cut (pair (add_sat_u w.shape.width) x y);
  right = add (picked lt_u w x (no w y)) y;
  same = λ v l.
      sum_by_bound (bound w) (v first) (v second) (bit_xor ((bound w - 1) % bound w) (v second)) (l first) (l second)
      (complement (bits w.shape.width) (v second) (l second));
}

-- ---- bounded by the least number but one

abbrev rounded : Laned
rounded = cut (pair q15_product x y)

abbrev bounded : Laned
bounded = cut (pair (λ n m. if signed_lt halves_wide n m then m else n) rounded (all 0x8001))

bounded_is_same : SameLanes 16 rounded bounded
bounded_is_same v l =
    let q = q15_product (v first) (v second) in
    sym (ap (λ c. (if c then 0x8001 % 2 ^ 16 else q % 2 ^ 16) % 2 ^ 16) (never_least (v first) (v second) (l first) (l second)) ∙ mod-mod q (2 ^ 16))

pub bound_product : Right 16 8 rounded bounded
bound_product = by_lanes 16 8 refl rounded bounded bounded_is_same

pub drop_bound : Right 16 8 bounded rounded
drop_bound = by_lanes 16 8 refl bounded rounded (λ v l. sym (bounded_is_same v l))
