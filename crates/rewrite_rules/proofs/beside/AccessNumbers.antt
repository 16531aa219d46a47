-- Numbers that loads and stores have in common: low bytes, and bytes read with their sign.
use Rattle.std.proofs.Common.{◌≡◌, ℕ, zero, suc, ◌+◌, ◌-◌, ◌*◌, ◌/◌, ◌%◌, ◌^◌, ◌<◌, ◌≤◌, Bool, true, false, List, ◌∷◌, refl, sym, ap, ap₂, ◌∙◌, subst, arith}
use Rattle.std.specs.Prelude.{pos, negsuc, nat_lt, bit_and}
use Rattle.std.specs.Int.{w8, w16, w32, w64, cast_signed, cast_unsigned}
use Rattle.std.proofs.lemmas.Bool.{lt-ltb, le-ltb}
use Rattle.std.proofs.lemmas.Nat.{pow_pos, and_mask, mod-mul-add, field_of, mod-pow-add}
use Rattle.std.proofs.Math.Nat.{mod-eq_of_lt, mod-lt, mod-mod, pow-le-pow_right}
use mir.Val.{sel}
use Rattle.wasm_execution.specs.Values.{bytes_of_number}
use Rattle.wasm_execution.specs.ExactRow.{doubles_wide}
use Rattle.wasm_execution.specs.Integer.{signed_into}
use Rattle.wasm_execution.specs.Lanes.{each_lane, splat, with_lane}

-- ---- small numbers

pub wide_enough : (w k n : ℕ) → n < 2 ^ w → w ≤ k → n < 2 ^ k
wide_enough w k n h l = let p = pow-le-pow_right (let q : zero < 2 = omega arith in q) l in omega arith

pub low_kept : (w k n : ℕ) → n < 2 ^ w → w ≤ k → n % 2 ^ k % 2 ^ w ≡ n
low_kept w k n h l = ap (λ x. x % 2 ^ w) (mod-eq_of_lt (wide_enough w k n h l)) ∙ mod-eq_of_lt h

pub masked_kept : (w k n : ℕ) → n < 2 ^ w → w ≤ k → n % 2 ^ k ≡ bit_and (n % 2 ^ k) (2 ^ w - 1) % 2 ^ k
masked_kept w k n h l = sym (ap (λ x. x % 2 ^ k) (and_mask (n % 2 ^ k) w ∙ low_kept w k n h l))

-- ---- bytes

low_bytes : (count j n : ℕ) → bytes_of_number count n ≡ bytes_of_number count (n % 2 ^ (j + 8 * count))
unfolding bytes_of_number
low_bytes zero j n = refl
low_bytes (suc count) j n =
    let i = j + 8 * count in
    let e : i + 8 ≡ j + 8 * suc count = omega arith in
    subst (λ x. n % 256 ∷ bytes_of_number count (n / 256) ≡ (n % 2 ^ x % 256) ∷ bytes_of_number count (n % 2 ^ x / 256)) e
    (ap₂ (λ (x : ℕ) (xs : List ℕ). x ∷ xs)
    (sym (ap (λ x. x % 2 ^ 8) (mod-pow-add n i 8) ∙ mod-mul-add (n / 2 ^ 8 % 2 ^ i) (2 ^ 8) (n % 2 ^ 8) (mod-lt n (pow_pos 8))))
    (low_bytes count j (n / 256) ∙ ap (bytes_of_number count) (sym (field_of n i 8))))

pub low_bytes_of : (count k n : ℕ) → 8 * count ≤ k → bytes_of_number count n ≡ bytes_of_number count (n % 2 ^ k)
low_bytes_of count k n l =
    let e : k - 8 * count + 8 * count ≡ k = omega arith in
    subst (λ x. bytes_of_number count n ≡ bytes_of_number count (n % 2 ^ x)) e (low_bytes count (k - 8 * count) n)

pub masked_bytes : (count k n : ℕ) → 8 * count ≤ k → bytes_of_number count n ≡ bytes_of_number count (bit_and n (2 ^ (8 * count) - 1) % 2 ^ k)
masked_bytes count k n l =
    let w = 8 * count in
    low_bytes_of count w n (let m : w ≤ w = omega arith in m) ∙ ap (bytes_of_number count)
    (sym (ap (λ x. x % 2 ^ k) (and_mask n w) ∙ mod-eq_of_lt (wide_enough w k (n % 2 ^ w) (mod-lt n (pow_pos w)) l)))

-- two numbers with the same low bits
same_bytes : (count n m : ℕ) → n % 2 ^ (8 * count) ≡ m % 2 ^ (8 * count) → bytes_of_number count n ≡ bytes_of_number count m
same_bytes count n m e =
    let all : 8 * count ≤ 8 * count = omega arith in
    low_bytes_of count (8 * count) n all ∙ (ap (bytes_of_number count) e ∙ sym (low_bytes_of count (8 * count) m all))

-- ---- signs

-- the low part of a negative number
folded : (A k m : ℕ) → m < A → (A * suc k - suc (A - suc m)) % (A * suc k) % A ≡ m
folded A k m l =
    let whole : A * suc k ≡ k * A + A = omega arith in
    let rest : A * suc k - suc (A - suc m) ≡ k * A + m = omega (arith, whole) in
    let small : A * suc k - suc (A - suc m) < A * suc k = omega (arith, whole) in
    ap (λ x. x % A) (mod-eq_of_lt small) ∙ (ap (λ x. x % A) rest ∙ mod-mul-add k A m l)

low_8 : (n : ℕ) → n % 2 ^ 8 ≡ signed_into w8 w32 n % 2 ^ 32 % 2 ^ 8
low_8 n = sym (go (nat_lt (n % 2 ^ 8) (2 ^ 7)))
  where
    go : (b : Bool) → cast_unsigned w32 (sel b (pos (n % 2 ^ 8)) (negsuc (2 ^ 8 - suc (n % 2 ^ 8)))) % 2 ^ 32 % 2 ^ 8 ≡ n % 2 ^ 8
    go true = low_kept 8 32 (n % 2 ^ 8) (mod-lt n (pow_pos 8)) (omega arith)
    go false = folded (2 ^ 8) (2 ^ 24 - 1) (n % 2 ^ 8) (mod-lt n (pow_pos 8))

low_16 : (n : ℕ) → n % 2 ^ 16 ≡ signed_into w16 w32 n % 2 ^ 32 % 2 ^ 16
low_16 n = sym (go (nat_lt (n % 2 ^ 16) (2 ^ 15)))
  where
    go : (b : Bool) → cast_unsigned w32 (sel b (pos (n % 2 ^ 16)) (negsuc (2 ^ 16 - suc (n % 2 ^ 16)))) % 2 ^ 32 % 2 ^ 16 ≡ n % 2 ^ 16
    go true = low_kept 16 32 (n % 2 ^ 16) (mod-lt n (pow_pos 16)) (omega arith)
    go false = folded (2 ^ 16) (2 ^ 16 - 1) (n % 2 ^ 16) (mod-lt n (pow_pos 16))

low_8_wide : (n : ℕ) → n % 2 ^ 8 ≡ signed_into w8 w64 n % 2 ^ 64 % 2 ^ 8
low_8_wide n = sym (go (nat_lt (n % 2 ^ 8) (2 ^ 7)))
  where
    go : (b : Bool) → cast_unsigned w64 (sel b (pos (n % 2 ^ 8)) (negsuc (2 ^ 8 - suc (n % 2 ^ 8)))) % 2 ^ 64 % 2 ^ 8 ≡ n % 2 ^ 8
    go true = low_kept 8 64 (n % 2 ^ 8) (mod-lt n (pow_pos 8)) (omega arith)
    go false = folded (2 ^ 8) (2 ^ 56 - 1) (n % 2 ^ 8) (mod-lt n (pow_pos 8))

low_16_wide : (n : ℕ) → n % 2 ^ 16 ≡ signed_into w16 w64 n % 2 ^ 64 % 2 ^ 16
low_16_wide n = sym (go (nat_lt (n % 2 ^ 16) (2 ^ 15)))
  where
    go : (b : Bool) → cast_unsigned w64 (sel b (pos (n % 2 ^ 16)) (negsuc (2 ^ 16 - suc (n % 2 ^ 16)))) % 2 ^ 64 % 2 ^ 16 ≡ n % 2 ^ 16
    go true = low_kept 16 64 (n % 2 ^ 16) (mod-lt n (pow_pos 16)) (omega arith)
    go false = folded (2 ^ 16) (2 ^ 48 - 1) (n % 2 ^ 16) (mod-lt n (pow_pos 16))

low_32_wide : (n : ℕ) → n % 2 ^ 32 ≡ signed_into w32 w64 n % 2 ^ 64 % 2 ^ 32
low_32_wide n = sym (go (nat_lt (n % 2 ^ 32) (2 ^ 31)))
  where
    go : (b : Bool) → cast_unsigned w64 (sel b (pos (n % 2 ^ 32)) (negsuc (2 ^ 32 - suc (n % 2 ^ 32)))) % 2 ^ 64 % 2 ^ 32 ≡ n % 2 ^ 32
    go true = low_kept 32 64 (n % 2 ^ 32) (mod-lt n (pow_pos 32)) (omega arith)
    go false = folded (2 ^ 32) (2 ^ 32 - 1) (n % 2 ^ 32) (mod-lt n (pow_pos 32))

-- the bytes of a number whose sign was extended
pub extended_8 : (n : ℕ) → bytes_of_number 1 n ≡ bytes_of_number 1 (signed_into w8 w32 n % 2 ^ 32)
extended_8 n = same_bytes 1 n _ (low_8 n)

pub extended_16 : (n : ℕ) → bytes_of_number 2 n ≡ bytes_of_number 2 (signed_into w16 w32 n % 2 ^ 32)
extended_16 n = same_bytes 2 n _ (low_16 n)

pub extended_8_wide : (n : ℕ) → bytes_of_number 1 n ≡ bytes_of_number 1 (signed_into w8 w64 n % 2 ^ 64)
extended_8_wide n = same_bytes 1 n _ (low_8_wide n)

pub extended_16_wide : (n : ℕ) → bytes_of_number 2 n ≡ bytes_of_number 2 (signed_into w16 w64 n % 2 ^ 64)
extended_16_wide n = same_bytes 2 n _ (low_16_wide n)

pub extended_32_wide : (n : ℕ) → bytes_of_number 4 n ≡ bytes_of_number 4 (signed_into w32 w64 n % 2 ^ 64)
extended_32_wide n = same_bytes 4 n _ (low_32_wide n)

-- a small number read with its sign in 32 bits, and that in 64
again : (A n : ℕ) → n < A → A ≤ 2 ^ 31 → (b : Bool) →
    cast_signed w32 (cast_unsigned w32 (sel b (pos n) (negsuc (A - suc n))) % 2 ^ 32 % 2 ^ 32) ≡ sel b (pos n) (negsuc (A - suc n))
again A n l h true =
    let small : n < 2 ^ 31 = omega arith in
    let kept : n % 2 ^ 32 % 2 ^ 32 ≡ n = mod-mod n (2 ^ 32) ∙ mod-eq_of_lt (let m : n < 2 ^ 32 = omega arith in m) in
    ap (cast_signed w32) kept ∙ ap (λ b. sel b (pos n) (negsuc (2 ^ 32 - suc n))) (lt-ltb n (2 ^ 31) small)
again A n l h false =
    let x : ℕ = 2 ^ 32 - suc (A - suc n) in
    let kept : x % 2 ^ 32 % 2 ^ 32 ≡ x = mod-mod x (2 ^ 32) ∙ mod-eq_of_lt (let m : x < 2 ^ 32 = omega arith in m) in
    let large : 2 ^ 31 ≤ x = omega arith in
    let back : 2 ^ 32 - suc x ≡ A - suc n = omega arith in
    ap (cast_signed w32) kept ∙ (ap (λ b. sel b (pos x) (negsuc (2 ^ 32 - suc x))) (le-ltb x (2 ^ 31) large) ∙ ap negsuc back)

pub again_8 : (n : ℕ) → n < 2 ^ 8 → cast_unsigned w64 (cast_signed w8 n) % 2 ^ 64 ≡ signed_into w32 w64 (cast_unsigned w32 (cast_signed w8 n) % 2 ^ 32) % 2 ^ 64
again_8 n l = ap (λ z. cast_unsigned w64 z % 2 ^ 64) (sym (again (2 ^ 8) n l (omega arith) (nat_lt n (2 ^ 7))))

pub again_16 : (n : ℕ) → n < 2 ^ 16 → cast_unsigned w64 (cast_signed w16 n) % 2 ^ 64
    ≡ signed_into w32 w64 (cast_unsigned w32 (cast_signed w16 n) % 2 ^ 32) % 2 ^ 64
again_16 n l = ap (λ z. cast_unsigned w64 z % 2 ^ 64) (sym (again (2 ^ 16) n l (omega arith) (nat_lt n (2 ^ 15))))

-- ---- halves

-- a number in both halves of a vector, of which the upper one is cleared
pub upper_cleared : (n : ℕ) → n < 2 ^ 64 → n % 2 ^ 128 ≡ with_lane doubles_wide 1 (splat doubles_wide n % 2 ^ 128) 0 % 2 ^ 128
unfolding each_lane
upper_cleared n l = omega arith
