-- Low bits read as signed: of what was extended already, of what is masked, and masked again.
use Rattle.std.proofs.Common.{◌≡◌, ℕ, suc, ◌+◌, ◌-◌, ◌*◌, ◌%◌, ◌^◌, ◌<◌, ◌≤◌, Bool, true, false, refl, sym, ap, ◌∙◌, arith}
use Rattle.std.specs.Prelude.{pos, negsuc, nat_lt, bit_and}
use Rattle.std.specs.Int.{Width, cast_signed, cast_unsigned, w8, w16, w32, w64}
use Rattle.std.proofs.lemmas.Bool.{lt-ltb, le-ltb}
use Rattle.std.proofs.Math.Nat.{mod-eq_of_lt, mod-mod, mod-lt}
use Rattle.std.proofs.lemmas.Nat.{pow_pos, and_mask, mod-mul-add}
use mir.Val.{bits, sel}
use Rattle.wasm_execution.specs.Integer.{signed_into}
use Rattle.rewrite_rules.proofs.identities.ExtensionNumbers.{signed}

-- ---- low bits of what was extended

-- those that were read as signed stay as they are
kept_low : (w : Width) (A C H n : ℕ) → 2 ^ bits w ≡ C * A + A → n < A → cast_unsigned w (signed H A n) % 2 ^ bits w % A ≡ n
unfolding signed
kept_low w A C H n e l = go (nat_lt n H)
  where
    go : (b : Bool) → cast_unsigned w (sel b (pos n) (negsuc (A - suc n))) % 2 ^ bits w % A ≡ n
    go true = ap (λ m. m % A) (mod-eq_of_lt (omega arith)) ∙ mod-eq_of_lt l
    go false =
        let rest : 2 ^ bits w - suc (A - suc n) ≡ C * A + n = omega arith in
        ap (λ m. m % A) (mod-eq_of_lt (omega arith)) ∙ (ap (λ m. m % A) rest ∙ mod-mul-add C A n l)

pub low_8_in_32 : (n : ℕ) → signed_into w8 w32 n % 2 ^ 32 % 2 ^ 8 ≡ n % 2 ^ 8
unfolding signed
low_8_in_32 n = kept_low w32 (2 ^ 8) (2 ^ 24 - 1) (2 ^ 7) (n % 2 ^ 8) refl (mod-lt n (pow_pos 8))

pub low_16_in_32 : (n : ℕ) → signed_into w16 w32 n % 2 ^ 32 % 2 ^ 16 ≡ n % 2 ^ 16
unfolding signed
low_16_in_32 n = kept_low w32 (2 ^ 16) (2 ^ 16 - 1) (2 ^ 15) (n % 2 ^ 16) refl (mod-lt n (pow_pos 16))

pub low_8_in_64 : (n : ℕ) → signed_into w8 w64 n % 2 ^ 64 % 2 ^ 8 ≡ n % 2 ^ 8
unfolding signed
low_8_in_64 n = kept_low w64 (2 ^ 8) (2 ^ 56 - 1) (2 ^ 7) (n % 2 ^ 8) refl (mod-lt n (pow_pos 8))

pub low_16_in_64 : (n : ℕ) → signed_into w16 w64 n % 2 ^ 64 % 2 ^ 16 ≡ n % 2 ^ 16
unfolding signed
low_16_in_64 n = kept_low w64 (2 ^ 16) (2 ^ 48 - 1) (2 ^ 15) (n % 2 ^ 16) refl (mod-lt n (pow_pos 16))

-- fewer of them
pub low_8_of_16 : (m n : ℕ) → m % 2 ^ 16 ≡ n % 2 ^ 16 → m % 2 ^ 8 ≡ n % 2 ^ 8
low_8_of_16 m n e = omega arith

pub low_8_of_half : (m n : ℕ) → m % 2 ^ 32 ≡ n % 2 ^ 32 → m % 2 ^ 8 ≡ n % 2 ^ 8
low_8_of_half m n e = omega arith

pub low_16_of_half : (m n : ℕ) → m % 2 ^ 32 ≡ n % 2 ^ 32 → m % 2 ^ 16 ≡ n % 2 ^ 16
low_16_of_half m n e = omega arith

-- ---- extended once more

-- where both numbers have the same low bits
pub same_low : (v w : Width) (m n : ℕ) → m % 2 ^ bits v ≡ n % 2 ^ bits v → signed_into v w m % 2 ^ bits w ≡ signed_into v w n % 2 ^ bits w
same_low v w m n e = ap (λ k. cast_unsigned w (cast_signed v k) % 2 ^ bits w) e

-- as many bits, or more, read as signed again
read_again : (w : Width) (A H E G D n : ℕ) → 2 ^ bits w ≡ D * E + E → G + G ≡ E → A ≤ G → n < A →
    signed G E (cast_unsigned w (signed H A n) % 2 ^ bits w % E) ≡ signed H A n
unfolding signed
read_again w A H E G D n e half few l = go (nat_lt n H)
  where
    at : (m r : ℕ) → m % 2 ^ bits w % E ≡ r → signed G E (m % 2 ^ bits w % E) ≡ signed G E r
    at m r k = ap (signed G E) k

    go : (b : Bool) → signed G E (cast_unsigned w (sel b (pos n) (negsuc (A - suc n))) % 2 ^ bits w % E) ≡ sel b (pos n) (negsuc (A - suc n))
    go true =
        at n n (ap (λ m. m % E) (mod-eq_of_lt (omega arith)) ∙ mod-eq_of_lt (omega arith))
        ∙ ap (λ c. sel c (pos n) (negsuc (E - suc n))) (lt-ltb n G (omega arith))
    go false =
        let r : ℕ = E - suc (A - suc n) in
        let rest : 2 ^ bits w - suc (A - suc n) ≡ D * E + r = omega arith in
        let back : E - suc r ≡ A - suc n = omega arith in
        at (2 ^ bits w - suc (A - suc n)) r
        (ap (λ m. m % E) (mod-eq_of_lt (omega arith)) ∙ (ap (λ m. m % E) rest ∙ mod-mul-add D E r (omega arith)))
        ∙ (ap (λ c. sel c (pos r) (negsuc (E - suc r))) (le-ltb r G (omega arith)) ∙ ap negsuc back)

pub read_8_as_16_in_32 : (n : ℕ) → signed_into w16 w32 (signed_into w8 w32 n % 2 ^ 32) % 2 ^ 32 ≡ signed_into w8 w32 n % 2 ^ 32
unfolding signed
read_8_as_16_in_32 n =
    ap (λ z. cast_unsigned w32 z % 2 ^ 32)
    (read_again w32 (2 ^ 8) (2 ^ 7) (2 ^ 16) (2 ^ 15) (2 ^ 16 - 1) (n % 2 ^ 8) refl refl (omega arith) (mod-lt n (pow_pos 8)))

pub read_8_as_16_in_64 : (n : ℕ) → signed_into w16 w64 (signed_into w8 w64 n % 2 ^ 64) % 2 ^ 64 ≡ signed_into w8 w64 n % 2 ^ 64
unfolding signed
read_8_as_16_in_64 n =
    ap (λ z. cast_unsigned w64 z % 2 ^ 64)
    (read_again w64 (2 ^ 8) (2 ^ 7) (2 ^ 16) (2 ^ 15) (2 ^ 48 - 1) (n % 2 ^ 8) refl refl (omega arith) (mod-lt n (pow_pos 8)))

pub read_8_as_32_in_64 : (n : ℕ) → signed_into w32 w64 (signed_into w8 w64 n % 2 ^ 64) % 2 ^ 64 ≡ signed_into w8 w64 n % 2 ^ 64
unfolding signed
read_8_as_32_in_64 n =
    ap (λ z. cast_unsigned w64 z % 2 ^ 64)
    (read_again w64 (2 ^ 8) (2 ^ 7) (2 ^ 32) (2 ^ 31) (2 ^ 32 - 1) (n % 2 ^ 8) refl refl (omega arith) (mod-lt n (pow_pos 8)))

pub read_16_as_32_in_64 : (n : ℕ) → signed_into w32 w64 (signed_into w16 w64 n % 2 ^ 64) % 2 ^ 64 ≡ signed_into w16 w64 n % 2 ^ 64
unfolding signed
read_16_as_32_in_64 n =
    ap (λ z. cast_unsigned w64 z % 2 ^ 64)
    (read_again w64 (2 ^ 16) (2 ^ 15) (2 ^ 32) (2 ^ 31) (2 ^ 32 - 1) (n % 2 ^ 16) refl refl (omega arith) (mod-lt n (pow_pos 16)))

-- ---- masks

-- the bits that a mask leaves
pub masked_low : (k j n : ℕ) → 2 ^ j ≤ 2 ^ k → bit_and n (2 ^ j - 1) % 2 ^ k % 2 ^ j ≡ n % 2 ^ j
masked_low k j n few =
    let below = mod-lt n (pow_pos j) in
    ap (λ m. m % 2 ^ k % 2 ^ j) (and_mask n j) ∙ (ap (λ m. m % 2 ^ j) (mod-eq_of_lt (omega arith)) ∙ mod-mod n (2 ^ j))

-- masks of numbers with the same low bits
pub same_masked : (k j m n : ℕ) → m % 2 ^ j ≡ n % 2 ^ j → bit_and m (2 ^ j - 1) % 2 ^ k ≡ bit_and n (2 ^ j - 1) % 2 ^ k
same_masked k j m n e = ap (λ i. i % 2 ^ k) (and_mask m j ∙ (e ∙ sym (and_mask n j)))

-- ---- wrapped and widened

-- the low half of what was read as signed
low_half_of : (A H n : ℕ) → A ≤ 2 ^ 32 → n < A → cast_unsigned w64 (signed H A n) % 2 ^ 64 % 2 ^ 32 ≡ cast_unsigned w32 (signed H A n) % 2 ^ 32
unfolding signed
low_half_of A H n few l = go (nat_lt n H)
  where
    go : (b : Bool) →
        cast_unsigned w64 (sel b (pos n) (negsuc (A - suc n))) % 2 ^ 64 % 2 ^ 32 ≡ cast_unsigned w32 (sel b (pos n) (negsuc (A - suc n))) % 2 ^ 32
    go true = ap (λ m. m % 2 ^ 32) (mod-eq_of_lt (omega arith))
    go false =
        let r : ℕ = 2 ^ 32 - suc (A - suc n) in
        let small : r < 2 ^ 32 = omega arith in
        let rest : 2 ^ 64 - suc (A - suc n) ≡ (2 ^ 32 - 1) * 2 ^ 32 + r = omega arith in
        ap (λ m. m % 2 ^ 32) (mod-eq_of_lt (omega arith))
        ∙ (ap (λ m. m % 2 ^ 32) rest ∙ (mod-mul-add (2 ^ 32 - 1) (2 ^ 32) r small ∙ sym (mod-eq_of_lt small)))

pub wrapped_8 : (n : ℕ) → signed_into w8 w64 n % 2 ^ 64 % 2 ^ 32 ≡ signed_into w8 w32 (n % 2 ^ 32) % 2 ^ 32
unfolding signed
wrapped_8 n =
    let low : n % 2 ^ 8 ≡ n % 2 ^ 32 % 2 ^ 8 = omega arith in
    low_half_of (2 ^ 8) (2 ^ 7) (n % 2 ^ 8) (omega arith) (mod-lt n (pow_pos 8)) ∙ same_low w8 w32 n (n % 2 ^ 32) low

pub wrapped_16 : (n : ℕ) → signed_into w16 w64 n % 2 ^ 64 % 2 ^ 32 ≡ signed_into w16 w32 (n % 2 ^ 32) % 2 ^ 32
unfolding signed
wrapped_16 n =
    let low : n % 2 ^ 16 ≡ n % 2 ^ 32 % 2 ^ 16 = omega arith in
    low_half_of (2 ^ 16) (2 ^ 15) (n % 2 ^ 16) (omega arith) (mod-lt n (pow_pos 16)) ∙ same_low w16 w32 n (n % 2 ^ 32) low

pub widened_8 : (n : ℕ) → signed_into w32 w64 (signed_into w8 w32 n % 2 ^ 32) % 2 ^ 64 ≡ signed_into w8 w64 (n % 2 ^ 64) % 2 ^ 64
unfolding signed
widened_8 n =
    let low : n % 2 ^ 8 ≡ n % 2 ^ 64 % 2 ^ 8 = omega arith in
    ap (λ z. cast_unsigned w64 z % 2 ^ 64)
    (read_again w32 (2 ^ 8) (2 ^ 7) (2 ^ 32) (2 ^ 31) 0 (n % 2 ^ 8) refl refl (omega arith) (mod-lt n (pow_pos 8)))
    ∙ same_low w8 w64 n (n % 2 ^ 64) low

pub widened_16 : (n : ℕ) → signed_into w32 w64 (signed_into w16 w32 n % 2 ^ 32) % 2 ^ 64 ≡ signed_into w16 w64 (n % 2 ^ 64) % 2 ^ 64
unfolding signed
widened_16 n =
    let low : n % 2 ^ 16 ≡ n % 2 ^ 64 % 2 ^ 16 = omega arith in
    ap (λ z. cast_unsigned w64 z % 2 ^ 64)
    (read_again w32 (2 ^ 16) (2 ^ 15) (2 ^ 32) (2 ^ 31) 0 (n % 2 ^ 16) refl refl (omega arith) (mod-lt n (pow_pos 16)))
    ∙ same_low w16 w64 n (n % 2 ^ 64) low
