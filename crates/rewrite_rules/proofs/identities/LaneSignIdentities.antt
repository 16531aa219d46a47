-- Signs of the floats in lanes: sides that have the same number in each lane.
use Rattle.std.proofs.Common.{◌≡◌, ℕ, ◌+◌, ◌-◌, ◌*◌, ◌%◌, ◌^◌, ◌<◌, sym, ap, ap₂, ◌∙◌, arith}
use Rattle.std.specs.Prelude.{bit_and, bit_xor}
use Rattle.std.specs.Int.Bits.{xor_assoc, xor_self, xor_zero_l, xor_zero_r, and_self, and_zero_l, and_zero_r}
use Rattle.std.proofs.lemmas.Nat.{pow_pos, and_assoc, and_le_l, and_xor_apart, and_block, xor_lt, xor_block}
use Rattle.std.proofs.Math.Nat.{mod-eq_of_lt}
use mir.Val.{bits}
use Rattle.wasm_execution.specs.Lanes.{sign_bit}
use Rattle.rewrite_rules.proofs.identities.LaneNumbers.{first, Laned, all, each, both, differ, cut}
use Rattle.rewrite_rules.proofs.identities.VectorIdentities.{x}
use Rattle.rewrite_rules.proofs.identities.LaneIdentities.{Whole, Sides, bound}

-- ---- the sign, and all other bits

abbrev sign : Whole → ℕ
sign w = sign_bit w.shape.width

sign_below : (w : Whole) → sign w < bound w
sign_below w = let e = w.signed in let p = pow_pos (bits w.shape.width - 1) in omega arith

-- they have no bit in common
pub apart : (k : ℕ) → bit_and (2 ^ k) (2 ^ k - 1) ≡ 0
apart k =
    let p = pow_pos k in
    let one : 1 * 2 ^ k + 0 ≡ 2 ^ k = omega arith in
    let rest : 0 * 2 ^ k + (2 ^ k - 1) ≡ 2 ^ k - 1 = omega arith in
    sym (ap₂ bit_and one rest) ∙ (and_block k 1 0 0 (2 ^ k - 1) p (omega arith) ∙ and_zero (2 ^ k) (2 ^ k - 1))
  where
    and_zero : (n m : ℕ) → bit_and 1 0 * n + bit_and 0 m ≡ 0
    and_zero n m = ap₂ (λ a b. a * n + b) (and_zero_r 1) (and_zero_l m) ∙ omega arith

-- together they are all
together : (k : ℕ) → bit_xor (2 ^ k - 1) (2 ^ k) ≡ 2 ^ k * 2 - 1
together k =
    let p = pow_pos k in
    let one : 1 * 2 ^ k + 0 ≡ 2 ^ k = omega arith in
    let rest : 0 * 2 ^ k + (2 ^ k - 1) ≡ 2 ^ k - 1 = omega arith in
    sym (ap₂ bit_xor rest one) ∙ (xor_block k 0 1 (2 ^ k - 1) 0 (omega arith) p
    ∙ (ap₂ (λ a b. a * 2 ^ k + b) (xor_zero_l 1) (xor_zero_r (2 ^ k - 1)) ∙ omega arith))

without_sign : (w : Whole) → bit_xor ((bound w - 1) % bound w) (sign w % bound w) ≡ sign w - 1
without_sign w =
    let p = pow_pos (bits w.shape.width) in
    let S = sign w in
    ap₂ bit_xor (mod-eq_of_lt (omega arith)) (mod-eq_of_lt (sign_below w))
    ∙ (ap (λ n. bit_xor n S) (ap (λ n. n - 1) w.signed ∙ sym (together (bits w.shape.width - 1)))
    ∙ (xor_assoc (S - 1) S S ∙ (ap (bit_xor (S - 1)) (xor_self S) ∙ xor_zero_r (S - 1))))

-- ---- operators

-- the other sign, and none
abbrev neg : Whole → Laned → Laned
neg w p = cut (each (λ n. bit_xor n (sign w)) p)

abbrev abs : Whole → Laned → Laned
abs w p = cut (each (λ n. bit_and n (sign w - 1)) p)

pub turned_below : (w : Whole) (n : ℕ) → n < bound w → bit_xor n (sign w) < bound w
turned_below w n l = xor_lt (bits w.shape.width) n (sign w) l (sign_below w)

pub magnitude_below : (w : Whole) (n : ℕ) → n < bound w → bit_and n (sign w - 1) < bound w
magnitude_below w n l = let k = and_le_l n (sign w - 1) in omega arith

pub turned_back : (w : Whole) (n : ℕ) → n < bound w → bit_xor (bit_xor n (sign w) % bound w) (sign w) % bound w ≡ n
turned_back w n l =
    let S = sign w in
    ap (λ m. bit_xor m S % bound w) (mod-eq_of_lt (turned_below w n l))
    ∙ (ap (λ m. m % bound w) (xor_assoc n S S ∙ (ap (bit_xor n) (xor_self S) ∙ xor_zero_r n)) ∙ mod-eq_of_lt l)

abbrev pub negative_twice : (w : Whole) → Sides w
negative_twice w = record { left = x; right = neg w (neg w x); same = λ v l. sym (turned_back w (v first) (l first)) }

pub turned_by_bits : (w : Whole) (n : ℕ) → n < bound w → bit_xor n (sign w) % bound w ≡ bit_xor n (sign w % bound w)
turned_by_bits w n l = mod-eq_of_lt (turned_below w n l) ∙ sym (ap (bit_xor n) (mod-eq_of_lt (sign_below w)))

abbrev pub negative_by_bits : (w : Whole) → Sides w
negative_by_bits w = record { left = neg w x; right = cut (differ x (all (sign w))); same = λ v l. turned_by_bits w (v first) (l first) }

pub magnitude_by_bits : (w : Whole) (n : ℕ) → n < bound w →
    bit_and n (sign w - 1) % bound w ≡ bit_and n (bit_xor ((bound w - 1) % bound w) (sign w % bound w))
magnitude_by_bits w n l = mod-eq_of_lt (magnitude_below w n l) ∙ sym (ap (bit_and n) (without_sign w))

abbrev pub abs_by_bits : (w : Whole) → Sides w
abs_by_bits w = record {
  left = abs w x;
  right = cut (both x (differ (all (bound w - 1)) (all (sign w))));
  same = λ v l. magnitude_by_bits w (v first) (l first);
}

pub magnitude_of_turned : (w : Whole) (n : ℕ) → n < bound w →
    bit_and n (sign w - 1) % bound w ≡ bit_and (bit_xor n (sign w) % bound w) (sign w - 1) % bound w
magnitude_of_turned w n l =
    sym (ap (λ m. bit_and m (sign w - 1) % bound w) (mod-eq_of_lt (turned_below w n l))
    ∙ ap (λ m. m % bound w) (and_xor_apart (sign w - 1) n (sign w) (apart (bits w.shape.width - 1))))

abbrev pub abs_of_negative : (w : Whole) → Sides w
abs_of_negative w = record { left = abs w x; right = abs w (neg w x); same = λ v l. magnitude_of_turned w (v first) (l first) }

pub magnitude_twice : (w : Whole) (n : ℕ) → n < bound w →
    bit_and n (sign w - 1) % bound w ≡ bit_and (bit_and n (sign w - 1) % bound w) (sign w - 1) % bound w
magnitude_twice w n l =
    let m = sign w - 1 in
    sym (ap (λ k. bit_and k m % bound w) (mod-eq_of_lt (magnitude_below w n l))
    ∙ ap (λ k. k % bound w) (and_assoc m n m ∙ ap (bit_and n) (and_self m)))

abbrev pub abs_twice : (w : Whole) → Sides w
abs_twice w = record { left = abs w x; right = abs w (abs w x); same = λ v l. magnitude_twice w (v first) (l first) }
