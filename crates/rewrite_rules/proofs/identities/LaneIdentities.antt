-- Sums, negatives and shifts of lanes: sides that have the same number in each lane.
use Rattle.std.proofs.Common.{◌≡◌, ℕ, zero, suc, ◌+◌, ◌-◌, ◌*◌, ◌/◌, ◌%◌, ◌^◌, ◌<◌, ◌≤◌, Bool, true, false, refl, sym, ap, ◌∙◌, arith}
use Rattle.std.proofs.Common.{add_comm, mul_comm, zero-add, add-zero}
use Rattle.std.specs.Prelude.{nat_lt, if◌then◌else◌}
use Rattle.std.specs.Int.{cast_signed, cast_unsigned, int_shr}
use Rattle.std.proofs.lemmas.Bool.{ltb-true, ltb-false}
use Rattle.std.proofs.lemmas.Nat.{pow_pos}
use Rattle.std.proofs.Math.Nat.{mod-eq_of_lt, zero-mod, mod_self, add-mod-mod, mul-one, div-one}
use mir.Val.{bits}
use Rattle.wasm_execution.specs.Lanes.{Shape, sign_bit}
use Rattle.wasm_execution.specs.ExactRow.{bytes_wide, halves_wide, words_wide, doubles_wide}
use Rattle.rewrite_rules.proofs.identities.GroupLemmas.{add_grouped, mul_grouped}
use Rattle.rewrite_rules.proofs.identities.NumberLemmas.{sign_shifted_by_zero}
use Rattle.rewrite_rules.proofs.identities.LaneNumbers.{first, second, third, Laned, each, pair, cut, SameLanes}
use Rattle.rewrite_rules.proofs.identities.VectorIdentities.{Right, by_lanes, x, y, z, zeros}

-- ---- shapes

-- a shape whose lanes are all bits of a vector, and half of whose numbers have a sign
pub record Whole : Type 0 where
  pub shape : Shape
  pub fills : bits shape.width * shape.count ≡ 128
  pub signed : 2 ^ bits shape.width ≡ sign_bit shape.width * 2

abbrev pub bytes : Whole
bytes = record { shape = bytes_wide; fills = refl; signed = refl }

abbrev pub halves : Whole
halves = record { shape = halves_wide; fills = refl; signed = refl }

abbrev pub words : Whole
words = record { shape = words_wide; fills = refl; signed = refl }

abbrev pub doubles : Whole
doubles = record { shape = doubles_wide; fills = refl; signed = refl }

-- a number above those of a lane
abbrev pub bound : Whole → ℕ
bound w = 2 ^ bits w.shape.width

-- two sides that have the same number in each lane
pub record Sides (w : Whole) : Type 0 where
  pub left : Laned
  pub right : Laned
  pub same : SameLanes (bits w.shape.width) left right

-- the line from left to right, and the one from right to left
pub forth : (w : Whole) (s : (w : Whole) → Sides w) → Right (bits w.shape.width) w.shape.count (s w).left (s w).right
forth w s = by_lanes (bits w.shape.width) w.shape.count w.fills (s w).left (s w).right (s w).same

pub back : (w : Whole) (s : (w : Whole) → Sides w) → Right (bits w.shape.width) w.shape.count (s w).right (s w).left
back w s = by_lanes (bits w.shape.width) w.shape.count w.fills (s w).right (s w).left (λ v l. sym ((s w).same v l))

-- ---- operators

abbrev pub add : Laned → Laned → Laned
add p q = cut (pair (λ n m. n + m) p q)

abbrev mul : Laned → Laned → Laned
mul p q = cut (pair (λ n m. n * m) p q)

abbrev pub sub : Whole → Laned → Laned → Laned
sub w p q = cut (pair (λ n m. n + (bound w - m)) p q)

abbrev neg : Whole → Laned → Laned
neg w p = cut (each (λ n. bound w - n) p)

abbrev magnitude : (S B n : ℕ) → ℕ
magnitude S B n = if nat_lt n S then n else B - n

abbrev abs : Whole → Laned → Laned
abs w p = cut (each (magnitude (sign_bit w.shape.width) (bound w)) p)

-- ---- numbers

-- the negative of the negative
pub neg_back : (B n : ℕ) → 0 < B → n < B → (B - (B - n) % B) % B ≡ n
neg_back B zero p h =
    let e : B - 0 ≡ B = omega arith in
    let none : (B - 0) % B ≡ 0 = ap (λ k. k % B) e ∙ mod_self B in
    ap (λ k. (B - k) % B) none ∙ none
neg_back B (suc n) p h =
    let l : B - suc n < B = omega arith in
    let e : B - (B - suc n) ≡ suc n = omega arith in
    ap (λ k. (B - k) % B) (mod-eq_of_lt l) ∙ (ap (λ k. k % B) e ∙ mod-eq_of_lt h)

-- the magnitude of the negative
pub magnitude_of_neg : (S B n : ℕ) → 0 < S → B ≡ S * 2 → n < B → magnitude S B ((B - n) % B) ≡ magnitude S B n
magnitude_of_neg S B zero p d h =
    let e : B - 0 ≡ B = omega arith in
    ap (magnitude S B) (ap (λ k. k % B) e ∙ mod_self B)
magnitude_of_neg S B (suc n) p d h =
    let l : B - suc n < B = omega arith in
    ap (magnitude S B) (mod-eq_of_lt l) ∙ go (nat_lt (B - suc n) S) refl (nat_lt (suc n) S) refl
  where
    go : (c : Bool) → nat_lt (B - suc n) S ≡ c → (e : Bool) → nat_lt (suc n) S ≡ e →
        (if c then B - suc n else B - (B - suc n)) ≡ (if e then suc n else B - suc n)
    go true i true j = let k = ltb-true (B - suc n) S i in let m = ltb-true (suc n) S j in absurd (omega arith)
    go true i false j = refl
    go false i true j = omega arith
    go false i false j = let k = ltb-false (B - suc n) S i in let m = ltb-false (suc n) S j in omega arith

-- what is at most half is its own magnitude, and each magnitude is
magnitude_below : (S B n : ℕ) → B ≡ S * 2 → n ≤ S → magnitude S B n ≡ n
magnitude_below S B n d h = go (nat_lt n S) refl
  where
    go : (c : Bool) → nat_lt n S ≡ c → (if c then n else B - n) ≡ n
    go true i = refl
    go false i = let k = ltb-false n S i in omega arith

magnitude_small : (S B n : ℕ) → B ≡ S * 2 → n < B → magnitude S B n ≤ S
magnitude_small S B n d h = go (nat_lt n S) refl
  where
    go : (c : Bool) → nat_lt n S ≡ c → (if c then n else B - n) ≤ S
    go true i = let k = ltb-true n S i in omega arith
    go false i = let k = ltb-false n S i in omega arith

pub magnitude_twice : (S B n : ℕ) → 0 < S → B ≡ S * 2 → n < B → magnitude S B (magnitude S B n % B) ≡ magnitude S B n
magnitude_twice S B n p d h =
    let k = magnitude_small S B n d h in
    let l : magnitude S B n < B = omega arith in
    ap (magnitude S B) (mod-eq_of_lt l) ∙ magnitude_below S B (magnitude S B n) d k

-- ---- sums

abbrev pub add_turns : (w : Whole) → Sides w
add_turns w = record { left = add x y; right = add y x; same = λ v l. ap (λ n. n % bound w) (add_comm (v first) (v second)) }

abbrev pub mul_turns : (w : Whole) → Sides w
mul_turns w = record { left = mul x y; right = mul y x; same = λ v l. ap (λ n. n % bound w) (mul_comm (v first) (v second)) }

abbrev pub add_groups : (w : Whole) → Sides w
add_groups w = record { left = add x (add y z); right = add (add x y) z; same = λ v l. add_grouped (bound w) (v first) (v second) (v third) }

abbrev pub mul_groups : (w : Whole) → Sides w
mul_groups w = record { left = mul x (mul y z); right = mul (mul x y) z; same = λ v l. mul_grouped (bound w) (v first) (v second) (v third) }

-- ---- negatives

abbrev pub difference_is_sum : (w : Whole) → Sides w
difference_is_sum w = record { left = sub w x y; right = add x (neg w y); same = λ v l. sym (add-mod-mod (v first) (bound w - v second) (bound w)) }

abbrev pub negative_is_difference : (w : Whole) → Sides w
negative_is_difference w = record {
  left = neg w x;
  right = sub w zeros x;
  same = λ v l. sym (ap (λ n. (n + (bound w - v first)) % bound w) (zero-mod (bound w)) ∙ ap (λ n. n % bound w) (zero-add (bound w - v first)));
}

abbrev pub negative_twice : (w : Whole) → Sides w
negative_twice w = record {
  left = x;
  right = neg w (neg w x);
  same = λ v l. sym (neg_back (bound w) (v first) (pow_pos (bits w.shape.width)) (l first));
}

abbrev pub sum_with_zero : (w : Whole) → Sides w
sum_with_zero w = record {
  left = x;
  right = add x zeros;
  same = λ v l. sym (ap (λ n. (v first + n) % bound w) (zero-mod (bound w)) ∙ (ap (λ n. n % bound w) (add-zero (v first)) ∙ mod-eq_of_lt (l first)));
}

abbrev pub difference_of_same : (w : Whole) → Sides w
difference_of_same w = record {
  left = sub w x x;
  right = zeros;
  same = λ v l.
      let h = l first in
      let e : v first + (bound w - v first) ≡ bound w = omega arith in
      ap (λ n. n % bound w) e ∙ (mod_self (bound w) ∙ sym (zero-mod (bound w)));
}

abbrev pub abs_of_negative : (w : Whole) → Sides w
abs_of_negative w = record {
  left = abs w x;
  right = abs w (neg w x);
  same = λ v l.
      sym (ap (λ n. n % bound w) (magnitude_of_neg (sign_bit w.shape.width) (bound w) (v first) (pow_pos (bits w.shape.width - 1)) w.signed (l first)));
}

abbrev pub abs_twice : (w : Whole) → Sides w
abs_twice w = record {
  left = abs w x;
  right = abs w (abs w x);
  same = λ v l.
      sym (ap (λ n. n % bound w) (magnitude_twice (sign_bit w.shape.width) (bound w) (v first) (pow_pos (bits w.shape.width - 1)) w.signed (l first)));
}

-- ---- shifts

-- one place to the left
abbrev pub shift_doubles : (w : Whole) → Sides w
shift_doubles w = record {
  left = cut (each (λ n. n * 2) x);
  right = add x x;
  same = λ v l. let e : v first * 2 ≡ v first + v first = omega arith in ap (λ n. n % bound w) e;
}

-- by no place, or all the way round
abbrev pub shl_by_none : (w : Whole) → Sides w
shl_by_none w = record {
  left = x;
  right = cut (each (λ n. n * 1) x);
  same = λ v l. sym (ap (λ n. n % bound w) (mul-one (v first)) ∙ mod-eq_of_lt (l first));
}

abbrev pub shr_u_by_none : (w : Whole) → Sides w
shr_u_by_none w = record {
  left = x;
  right = cut (each (λ n. n / 1) x);
  same = λ v l. sym (ap (λ n. n % bound w) (div-one (v first)) ∙ mod-eq_of_lt (l first));
}

abbrev pub shr_s_by_none : (w : Whole) → Sides w
shr_s_by_none w = record {
  left = x;
  right = cut (each (λ n. cast_unsigned w.shape.width (int_shr (cast_signed w.shape.width n) 0)) x);
  same = λ v l. sym (ap (λ n. n % bound w) (sign_shifted_by_zero w.shape.width (v first) (l first)) ∙ mod-eq_of_lt (l first));
}
