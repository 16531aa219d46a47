-- Floats as their bits: turned signs, magnitudes, and the sign of another.
use Rattle.std.proofs.Common.{◌≡◌, ℕ, ◌+◌, ◌-◌, ◌%◌, ◌^◌, ◌<◌, ◌≤◌, ◌⊎◌, inl, inr, Bool, true, false, refl, sym, ap, ◌∙◌, subst, arith}
use Rattle.std.specs.Prelude.{nat_lt, bit_and, bit_or}
use Rattle.std.specs.Int.Bits.{xor_add_and, or_add_and, or_zero_r}
use Rattle.std.proofs.lemmas.Bool.{ltb-true, ltb-false}
use Rattle.std.proofs.lemmas.Nat.{pow_pos, and_mask}
use Rattle.std.proofs.Math.Nat.{mod-eq_of_lt, mod-mod, mod-lt, add-mod_right}
use mir.Val.{bits}
use Rattle.wasm_execution.specs.declared.integer.IntegerType.{IntegerType}
use Rattle.wasm_execution.specs.declared.integer.IntegerType.TheVariants as integer
use Rattle.wasm_execution.specs.Lanes.{sign_bit, magnitude, negated, with_sign}
use Rattle.wasm_execution.specs.Values.{width_of}
use Rattle.rewrite_rules.specs.Numbers.{low}
use Rattle.rewrite_rules.proofs.identities.SignNumbers.{turned_on, turned_off}

-- ---- below a power of two

pub twice_kept : (k n : ℕ) → n < 2 ^ k → n % 2 ^ k % 2 ^ k ≡ n
twice_kept k n h = mod-mod n (2 ^ k) ∙ mod-eq_of_lt h

-- a function of the bits, read as a float; and the bits of a float that one gives
pub by_bits : (k : ℕ) (f : ℕ → ℕ) (n : ℕ) → n < 2 ^ k → f n % 2 ^ k ≡ f (n % 2 ^ k) % 2 ^ k % 2 ^ k
by_bits k f n h = sym (mod-mod (f (n % 2 ^ k)) (2 ^ k) ∙ ap (λ x. f x % 2 ^ k) (mod-eq_of_lt h))

pub bits_of : (k : ℕ) (f : ℕ → ℕ) (n : ℕ) → n < 2 ^ k → f n % 2 ^ k % 2 ^ k ≡ f (n % 2 ^ k) % 2 ^ k
bits_of k f n h = mod-mod (f n) (2 ^ k) ∙ sym (ap (λ x. f x % 2 ^ k) (mod-eq_of_lt h))

-- ---- the sign, and the rest

abbrev pub sign : IntegerType → ℕ
sign t = sign_bit (width_of t)

-- a float's values, as numbers of their width
abbrev pub neg : IntegerType → ℕ → ℕ
neg t n = low t (negated (width_of t) n)

abbrev pub abs : IntegerType → ℕ → ℕ
abs t n = low t (magnitude (width_of t) n)

abbrev pub copy : IntegerType → ℕ → ℕ → ℕ
copy t n u = low t (with_sign (width_of t) n u)

-- the exponent of the sign
abbrev place : IntegerType → ℕ
place t = bits (width_of t) - 1

whole : (t : IntegerType) → 2 ^ bits (width_of t) ≡ sign t + sign t
whole integer.I32 = refl
whole integer.I64 = refl

stays : (t : IntegerType) (n : ℕ) → n < sign t + sign t → low t n ≡ n
stays t n l = mod-eq_of_lt (subst (λ m. n < m) (sym (whole t)) l)

-- it has no sign, or is a number without one and the sign
split : (t : IntegerType) (n : ℕ) → n < 2 ^ bits (width_of t) → (n < sign t) ⊎ ((n - sign t < sign t) × (n ≡ n - sign t + sign t))
split t n h = go (nat_lt n (sign t)) refl
  where
    go : (b : Bool) → nat_lt n (sign t) ≡ b → (n < sign t) ⊎ ((n - sign t < sign t) × (n ≡ n - sign t + sign t))
    go true e = inl (ltb-true n (sign t) e)
    go false e =
        let l : sign t ≤ n = ltb-false n (sign t) e in
        let m = subst (λ m. n < m) (whole t) h in
        inr (omega arith, omega arith)

-- what holds of numbers without sign, and of these with it, holds of all
pub by_sign : (t : IntegerType) (P : ℕ → Type 0) → ((n : ℕ) → n < sign t → P n) → ((n : ℕ) → n < sign t → P (n + sign t)) →
    (n : ℕ) → n < 2 ^ bits (width_of t) → P n
by_sign t P off on n h = elim (split t n h) [
  | inl l ↦ off n l
  | inr k ↦ subst P (sym k.1) (on (n - sign t) k.0)
]

-- ---- magnitudes

pub magnitude_lt : (t : IntegerType) (n : ℕ) → magnitude (width_of t) n < sign t
magnitude_lt t n = subst (λ m. m < sign t) (sym (and_mask n (place t))) (mod-lt n (pow_pos (place t)))

pub abs_is : (t : IntegerType) (n : ℕ) → abs t n ≡ magnitude (width_of t) n
abs_is t n = let l = magnitude_lt t n in stays t (magnitude (width_of t) n) (omega arith)

pub abs_lt : (t : IntegerType) (n : ℕ) → abs t n < sign t
abs_lt t n = subst (λ m. m < sign t) (sym (abs_is t n)) (magnitude_lt t n)

pub abs_off : (t : IntegerType) (n : ℕ) → n < sign t → abs t n ≡ n
abs_off t n l = abs_is t n ∙ (and_mask n (place t) ∙ mod-eq_of_lt l)

abs_on : (t : IntegerType) (n : ℕ) → n < sign t → abs t (n + sign t) ≡ n
abs_on t n l = abs_is t (n + sign t) ∙ (and_mask (n + sign t) (place t) ∙ (add-mod_right n (sign t) ∙ mod-eq_of_lt l))

-- ---- the other sign

pub neg_off : (t : IntegerType) (n : ℕ) → n < sign t → neg t n ≡ n + sign t
neg_off t n l = ap (low t) (turned_on (place t) n l) ∙ stays t (n + sign t) (omega arith)

pub neg_on : (t : IntegerType) (n : ℕ) → n < sign t → neg t (n + sign t) ≡ n
neg_on t n l =
    let back : n + sign t - sign t ≡ n = omega arith in
    ap (low t) (turned_off (place t) (n + sign t) (omega arith) (omega arith) ∙ back) ∙ stays t n (omega arith)

pub neg_twice : (t : IntegerType) (n : ℕ) → n < 2 ^ bits (width_of t) → neg t (neg t n) ≡ n
neg_twice t = by_sign t (λ n. neg t (neg t n) ≡ n)
    (λ n l. ap (neg t) (neg_off t n l) ∙ neg_on t n l) (λ n l. ap (neg t) (neg_on t n l) ∙ neg_off t n l)

pub abs_twice : (t : IntegerType) (n : ℕ) → abs t (abs t n) ≡ abs t n
abs_twice t n = abs_off t (abs t n) (abs_lt t n)

pub abs_of_neg : (t : IntegerType) (n : ℕ) → n < 2 ^ bits (width_of t) → abs t (neg t n) ≡ abs t n
abs_of_neg t = by_sign t (λ n. abs t (neg t n) ≡ abs t n)
    (λ n l. ap (abs t) (neg_off t n l) ∙ (abs_on t n l ∙ sym (abs_off t n l)))
    (λ n l. ap (abs t) (neg_on t n l) ∙ (abs_off t n l ∙ sym (abs_on t n l)))

pub magnitude_of_neg : (t : IntegerType) (n : ℕ) → n < 2 ^ bits (width_of t) → magnitude (width_of t) (neg t n) ≡ magnitude (width_of t) n
magnitude_of_neg t n h = sym (abs_is t (neg t n)) ∙ (abs_of_neg t n h ∙ abs_is t n)

-- ---- the sign of another

sign_none : (t : IntegerType) (u : ℕ) → u < sign t → bit_and u (sign t) ≡ 0
sign_none t u l = let turned = turned_on (place t) u l in let sum = xor_add_and u (sign t) in omega arith

sign_there : (t : IntegerType) (u : ℕ) → u < sign t → bit_and (u + sign t) (sign t) ≡ sign t
sign_there t u l =
    let turned = turned_off (place t) (u + sign t) (omega arith) (omega arith) in
    let sum = xor_add_and (u + sign t) (sign t) in
    omega arith

or_sign : (t : IntegerType) (n : ℕ) → n < sign t → bit_or n (sign t) ≡ n + sign t
or_sign t n l = let none = sign_none t n l in let sum = or_add_and n (sign t) in omega arith

copy_off : (t : IntegerType) (n u : ℕ) → u < sign t → copy t n u ≡ abs t n
copy_off t n u l =
    let m = magnitude (width_of t) n in
    ap (λ x. low t (bit_or m x)) (sign_none t u l) ∙ ap (low t) (or_zero_r m)

copy_on : (t : IntegerType) (n u : ℕ) → u < sign t → copy t n (u + sign t) ≡ abs t n + sign t
copy_on t n u l =
    let m = magnitude (width_of t) n in
    let small : m < sign t = magnitude_lt t n in
    ap (λ x. low t (bit_or m x)) (sign_there t u l) ∙ (ap (low t) (or_sign t m small) ∙ (stays t (m + sign t) (omega arith)
    ∙ ap (λ x. x + sign t) (sym (abs_is t n))))

pub own_sign : (t : IntegerType) (n : ℕ) → n < 2 ^ bits (width_of t) → copy t n n ≡ n
own_sign t = by_sign t (λ n. copy t n n ≡ n) (λ n l. copy_off t n n l ∙ abs_off t n l)
    (λ n l. copy_on t (n + sign t) n l ∙ ap (λ x. x + sign t) (abs_on t n l))

pub sign_of_neg : (t : IntegerType) (n u : ℕ) → u < 2 ^ bits (width_of t) → copy t n (neg t u) ≡ neg t (copy t n u)
sign_of_neg t n = by_sign t (λ u. copy t n (neg t u) ≡ neg t (copy t n u))
    (λ u l. ap (copy t n) (neg_off t u l) ∙ (copy_on t n u l ∙ sym (ap (neg t) (copy_off t n u l) ∙ neg_off t (abs t n) (abs_lt t n))))
    (λ u l. ap (copy t n) (neg_on t u l) ∙ (copy_off t n u l ∙ sym (ap (neg t) (copy_on t n u l) ∙ neg_on t (abs t n) (abs_lt t n))))

pub sign_of_own_neg : (t : IntegerType) (n : ℕ) → n < 2 ^ bits (width_of t) → copy t n (neg t n) ≡ neg t n
sign_of_own_neg t n h = sign_of_neg t n n h ∙ ap (neg t) (own_sign t n h)

pub sign_of_own_abs : (t : IntegerType) (n : ℕ) → copy t n (abs t n) ≡ abs t n
sign_of_own_abs t n = copy_off t n (abs t n) (abs_lt t n)

pub copy_of_neg : (t : IntegerType) (n u : ℕ) → n < 2 ^ bits (width_of t) → copy t (neg t n) u ≡ copy t n u
copy_of_neg t n u h = ap (λ m. low t (bit_or m (bit_and u (sign t)))) (magnitude_of_neg t n h)

pub copy_of_abs : (t : IntegerType) (n u : ℕ) → copy t (abs t n) u ≡ copy t n u
copy_of_abs t n u = ap (λ m. low t (bit_or m (bit_and u (sign t)))) (sym (abs_is t (abs t n)) ∙ (abs_twice t n ∙ abs_is t n))

pub abs_of_copy : (t : IntegerType) (n u : ℕ) → u < 2 ^ bits (width_of t) → abs t (copy t n u) ≡ abs t n
abs_of_copy t n = by_sign t (λ u. abs t (copy t n u) ≡ abs t n)
    (λ u l. ap (abs t) (copy_off t n u l) ∙ abs_twice t n) (λ u l. ap (abs t) (copy_on t n u l) ∙ abs_on t (abs t n) (abs_lt t n))

pub sign_again : (t : IntegerType) (n u v : ℕ) → u < 2 ^ bits (width_of t) → v < 2 ^ bits (width_of t) → copy t (copy t n u) v ≡ copy t n v
sign_again t n u v h = by_sign t (λ v. copy t (copy t n u) v ≡ copy t n v)
    (λ v l. copy_off t (copy t n u) v l ∙ (abs_of_copy t n u h ∙ sym (copy_off t n v l)))
    (λ v l. copy_on t (copy t n u) v l ∙ (ap (λ x. x + sign t) (abs_of_copy t n u h) ∙ sym (copy_on t n v l))) v

pub sign_of_sign : (t : IntegerType) (n u v : ℕ) → v < 2 ^ bits (width_of t) → copy t n (copy t u v) ≡ copy t n v
sign_of_sign t n u = by_sign t (λ v. copy t n (copy t u v) ≡ copy t n v)
    (λ v l. ap (copy t n) (copy_off t u v l) ∙ (copy_off t n (abs t u) (abs_lt t u) ∙ sym (copy_off t n v l)))
    (λ v l. ap (copy t n) (copy_on t u v l) ∙ (copy_on t n (abs t u) (abs_lt t u) ∙ sym (copy_on t n v l)))

-- the other sign of a magnitude is the sign among the bits
pub neg_of_abs : (t : IntegerType) (n : ℕ) → n < 2 ^ bits (width_of t) → neg t (abs t n) ≡ low t (bit_or n (sign t))
neg_of_abs t = by_sign t (λ n. neg t (abs t n) ≡ low t (bit_or n (sign t)))
    (λ n l. neg_off t (abs t n) (abs_lt t n) ∙ (ap (λ x. x + sign t) (abs_off t n l)
    ∙ sym (ap (low t) (or_sign t n l) ∙ stays t (n + sign t) (omega arith))))
    (λ n l. neg_off t (abs t (n + sign t)) (abs_lt t (n + sign t)) ∙ (ap (λ x. x + sign t) (abs_on t n l)
    ∙ sym (ap (low t) (sign_stays t n l) ∙ stays t (n + sign t) (omega arith))))
  where
    sign_stays : (t : IntegerType) (n : ℕ) → n < sign t → bit_or (n + sign t) (sign t) ≡ n + sign t
    sign_stays t n l = let both = sign_there t n l in let sum = or_add_and (n + sign t) (sign t) in omega arith
