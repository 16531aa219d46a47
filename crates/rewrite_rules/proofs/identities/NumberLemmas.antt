-- Numbers by their low bits: all ones, negated constants, differences, shifts, turns, and powers of two.
use Rattle.std.proofs.Common.{◌≡◌, ℕ, ℤ, zero, suc, ◌+◌, ◌-◌, ◌*◌, ◌/◌, ◌%◌, ◌^◌, ◌<◌, ◌≤◌, Bool, true, false, refl, sym, ap, ap₂, ◌∙◌, subst, arith}
use Rattle.std.specs.Prelude.{pos, negsuc, nat_lt, bit_and, bit_or, bit_xor, max, min}
use Rattle.std.specs.Int.{Width, cast_signed, cast_unsigned, bit_at, int_shr, rotate_left, rotate_right}
use Rattle.std.specs.Int.Bits.{or_self, xor_self, xor_zero_r}
use Rattle.std.proofs.lemmas.Bool.{ltb-true, ltb-false}
use Rattle.std.proofs.Math.Nat.{mod-eq_of_lt, mod-mod, zero-mod, mod-lt, add-mod-mod, add-mod_right, pow-suc, lt_trans, div-one, mul-one, mod_self}
use Rattle.std.proofs.lemmas.Nat.{pow_pos, and_mask, and_mod, or_mod, mul-mod_second, pow_below, or_comm, or_lt, xor_lt, and_le_l, le_or_r, mod-mul-add}
use Rattle.std.proofs.lemmas.Nat.Bits.{bit_at_or, bit_at_and, bit_at_xor, bit_at_ones, bit_at-lt, same_from_bits_below}
use Rattle.std.proofs.lemmas.Int.{of_z-to_z}
use mir.Val.{bits}
use Rattle.rewrite_rules.proofs.identities.GroupLemmas.{xor_grouped}

-- ---- all ones

pub and_ones_is : (k n : ℕ) → n < 2 ^ k → bit_and n (2 ^ k - 1) % 2 ^ k ≡ n
and_ones_is k n h = ap (λ m. m % 2 ^ k) (and_mask n k) ∙ (mod-mod n (2 ^ k) ∙ mod-eq_of_lt h)

pub or_ones_is : (k n : ℕ) → n < 2 ^ k → bit_or n (2 ^ k - 1) % 2 ^ k ≡ 2 ^ k - 1
or_ones_is k n l =
    let p = pow_pos k in
    let ones : 2 ^ k - 1 < 2 ^ k = omega arith in
    let below = or_lt k n (2 ^ k - 1) l ones in
    let above = le_or_r n (2 ^ k - 1) in
    mod-eq_of_lt below ∙ omega arith

pub twice_complement : (k n : ℕ) → n < 2 ^ k → bit_xor (bit_xor n (2 ^ k - 1) % 2 ^ k) (2 ^ k - 1) % 2 ^ k ≡ n
twice_complement k n h =
    let m : ℕ = 2 ^ k - 1 in
    let p = pow_pos k in
    let below : m < 2 ^ k = omega arith in
    sym (xor_grouped k n m m) ∙ (ap (λ x. bit_xor n (x % 2 ^ k) % 2 ^ k) (xor_self m) ∙ (ap (λ x. bit_xor n x % 2 ^ k) (mod-eq_of_lt p)
    ∙ (ap (λ x. x % 2 ^ k) (xor_zero_r n) ∙ mod-eq_of_lt h)))

-- a complement, bit by bit
one_bit : (a b : ℕ) → a < 2 → b < 2 → (min a b + 1) % 2 ≡ max ((a + 1) % 2) ((b + 1) % 2)
one_bit a b l m = omega arith

other_bit : (a b : ℕ) → a < 2 → b < 2 → (max a b + 1) % 2 ≡ min ((a + 1) % 2) ((b + 1) % 2)
other_bit a b l m = omega arith

complement_of_and : (k a b : ℕ) → a < 2 ^ k → b < 2 ^ k →
    bit_xor (bit_and a b) (2 ^ k - 1) ≡ bit_or (bit_xor a (2 ^ k - 1)) (bit_xor b (2 ^ k - 1))
complement_of_and k a b l m =
    let p = pow_pos k in
    let e : ℕ = 2 ^ k - 1 in
    let ones : e < 2 ^ k = omega arith in
    let small : bit_and a b < 2 ^ k = let h = and_le_l a b in omega arith in
    same_from_bits_below k (bit_xor (bit_and a b) e) (bit_or (bit_xor a e) (bit_xor b e)) (xor_lt k (bit_and a b) e small ones)
    (or_lt k (bit_xor a e) (bit_xor b e) (xor_lt k a e l ones) (xor_lt k b e m ones))
    (λ i h. bit_at_xor (bit_and a b) e i ∙ (ap₂ (λ x y. (x + y) % 2) (bit_at_and a b i) (bit_at_ones k i h)
    ∙ (one_bit (bit_at a i) (bit_at b i) (bit_at-lt a i) (bit_at-lt b i)
    ∙ sym (bit_at_or (bit_xor a e) (bit_xor b e) i ∙ ap₂ max (bit_at_xor a e i ∙ ap (λ y. (bit_at a i + y) % 2) (bit_at_ones k i h))
    (bit_at_xor b e i ∙ ap (λ y. (bit_at b i + y) % 2) (bit_at_ones k i h))))))

complement_of_or : (k a b : ℕ) → a < 2 ^ k → b < 2 ^ k →
    bit_xor (bit_or a b) (2 ^ k - 1) ≡ bit_and (bit_xor a (2 ^ k - 1)) (bit_xor b (2 ^ k - 1))
complement_of_or k a b l m =
    let p = pow_pos k in
    let e : ℕ = 2 ^ k - 1 in
    let ones : e < 2 ^ k = omega arith in
    let first = xor_lt k a e l ones in
    let small : bit_and (bit_xor a e) (bit_xor b e) < 2 ^ k = let h = and_le_l (bit_xor a e) (bit_xor b e) in omega arith in
    same_from_bits_below k (bit_xor (bit_or a b) e) (bit_and (bit_xor a e) (bit_xor b e)) (xor_lt k (bit_or a b) e (or_lt k a b l m) ones) small
    (λ i h. bit_at_xor (bit_or a b) e i ∙ (ap₂ (λ x y. (x + y) % 2) (bit_at_or a b i) (bit_at_ones k i h)
    ∙ (other_bit (bit_at a i) (bit_at b i) (bit_at-lt a i) (bit_at-lt b i)
    ∙ sym (bit_at_and (bit_xor a e) (bit_xor b e) i ∙ ap₂ min (bit_at_xor a e i ∙ ap (λ y. (bit_at a i + y) % 2) (bit_at_ones k i h))
    (bit_at_xor b e i ∙ ap (λ y. (bit_at b i + y) % 2) (bit_at_ones k i h))))))

-- the same, of results below 2 ^ k
pub and_complement : (k a b : ℕ) → a < 2 ^ k → b < 2 ^ k →
    bit_xor (bit_and a b % 2 ^ k) (2 ^ k - 1) % 2 ^ k ≡ bit_or (bit_xor a (2 ^ k - 1) % 2 ^ k) (bit_xor b (2 ^ k - 1) % 2 ^ k) % 2 ^ k
and_complement k a b l m =
    let M = 2 ^ k in
    let e : ℕ = M - 1 in
    let small : bit_and a b < M = let h = and_le_l a b in omega arith in
    ap (λ x. bit_xor x e % M) (mod-eq_of_lt small) ∙ (ap (λ x. x % M) (complement_of_and k a b l m) ∙ (or_mod (bit_xor a e) (bit_xor b e) k
    ∙ sym (or_mod (bit_xor a e % M) (bit_xor b e % M) k ∙ ap₂ bit_or (mod-mod (bit_xor a e) M) (mod-mod (bit_xor b e) M))))

pub or_complement : (k a b : ℕ) → a < 2 ^ k → b < 2 ^ k →
    bit_xor (bit_or a b % 2 ^ k) (2 ^ k - 1) % 2 ^ k ≡ bit_and (bit_xor a (2 ^ k - 1) % 2 ^ k) (bit_xor b (2 ^ k - 1) % 2 ^ k) % 2 ^ k
or_complement k a b l m =
    let M = 2 ^ k in
    let e : ℕ = M - 1 in
    ap (λ x. bit_xor x e % M) (mod-eq_of_lt (or_lt k a b l m)) ∙ (ap (λ x. x % M) (complement_of_or k a b l m) ∙ (and_mod (bit_xor a e) (bit_xor b e) k
    ∙ sym (and_mod (bit_xor a e % M) (bit_xor b e % M) k ∙ ap₂ bit_and (mod-mod (bit_xor a e) M) (mod-mod (bit_xor b e) M))))

-- ---- negated constants

pub sum_is : (M n m : ℕ) → (n + (M - m)) % M ≡ (n + (M - m) % M) % M
sum_is M n m = sym (add-mod-mod n (M - m) M)

pub difference_is : (M n m : ℕ) → m < M → (n + m) % M ≡ (n + (M - (M - m) % M)) % M
difference_is M n zero h =
    let same : n + 0 ≡ n = omega arith in
    let whole : n + (M - 0) ≡ n + M = omega arith in
    ap (λ x. x % M) same ∙ sym (ap (λ x. (n + (M - x)) % M) (ap (λ x. x % M) none ∙ (add-mod_right 0 M ∙ zero-mod M))
    ∙ (ap (λ x. x % M) whole ∙ add-mod_right n M))
  where
    none : M - 0 ≡ 0 + M
    none = omega arith
difference_is M n (suc m) h =
    let small : M - suc m < M = omega arith in
    let back : M - (M - suc m) ≡ suc m = omega arith in
    sym (ap (λ x. (n + (M - x)) % M) (mod-eq_of_lt small) ∙ ap (λ x. (n + x) % M) back)

-- ---- differences

-- what is left, taken away
pub rest_away : (M a b : ℕ) → a < M → b < M → (a + (M - (a + (M - b)) % M)) % M ≡ b
rest_away M a b k l = go (nat_lt a b) refl
  where
    go : (p : Bool) → nat_lt a b ≡ p → (a + (M - (a + (M - b)) % M)) % M ≡ b
    go true e =
        let m = ltb-true a b e in
        let back : a + (M - (a + (M - b))) ≡ b = omega arith in
        ap (λ n. (a + (M - n)) % M) (mod-eq_of_lt (omega arith)) ∙ (ap (λ n. n % M) back ∙ mod-eq_of_lt l)
    go false e =
        let m : b ≤ a = ltb-false a b e in
        let whole : a + (M - b) ≡ a - b + M = omega arith in
        let back : a + (M - (a - b)) ≡ b + M = omega arith in
        ap (λ n. (a + (M - n)) % M) (ap (λ n. n % M) whole ∙ (add-mod_right (a - b) M ∙ mod-eq_of_lt (omega arith)))
        ∙ (ap (λ n. n % M) back ∙ (add-mod_right b M ∙ mod-eq_of_lt l))

-- ---- shifts

pub product_is : (k n m : ℕ) → m < k → (n * 2 ^ (m % k)) % 2 ^ k ≡ (n * (2 ^ m % 2 ^ k)) % 2 ^ k
product_is k n m h = ap (λ x. (n * 2 ^ x) % 2 ^ k) (mod-eq_of_lt h) ∙ sym (mul-mod_second n (2 ^ m) (2 ^ k))

pub below_power : (k : ℕ) → k < 2 ^ k
below_power zero = omega arith
below_power (suc k) =
    let h = below_power k in
    let e = pow-suc 2 k in
    omega arith

pub shift_is : (k a n m : ℕ) → m < k → 2 ^ m ≡ n → (a * n) % 2 ^ k ≡ (a * 2 ^ (m % 2 ^ k % k)) % 2 ^ k
shift_is k a n m h e =
    let small : m < 2 ^ k = lt_trans h (below_power k) in
    sym (ap (λ x. (a * 2 ^ (x % k)) % 2 ^ k) (mod-eq_of_lt small) ∙ (ap (λ x. (a * 2 ^ x) % 2 ^ k) (mod-eq_of_lt h) ∙ ap (λ x. (a * x) % 2 ^ k) e))

-- ---- shifts by nothing

signed_by_zero : (z : ℤ) → int_shr z 0 ≡ z
signed_by_zero (pos a) = ap pos (div-one a)
signed_by_zero (negsuc a) = ap negsuc (div-one a)

pub sign_shifted_by_zero : (w : Width) (n : ℕ) → n < 2 ^ bits w → cast_unsigned w (int_shr (cast_signed w n) 0) ≡ n
sign_shifted_by_zero w n l = ap (cast_unsigned w) (signed_by_zero (cast_signed w n)) ∙ of_z-to_z w n l

-- ---- turns

pub joined_with_itself : (n M : ℕ) → n < M → bit_or (n * 2 ^ 0 % M) (n / 2 ^ 0) ≡ n
joined_with_itself n M l = ap₂ bit_or (ap (λ x. x % M) (mul-one n) ∙ mod-eq_of_lt l) (div-one n) ∙ or_self n

pub itself_joined : (n M : ℕ) → n < M → bit_or (n / 2 ^ 0) (n * 2 ^ 0 % M) ≡ n
itself_joined n M l = or_comm (n / 2 ^ 0) (n * 2 ^ 0 % M) ∙ joined_with_itself n M l

-- the rest of a turn, turned back
rest_back : (k a : ℕ) → a < k → (k - (k - a) % k) % k ≡ a
rest_back k zero l =
    let whole : k - 0 ≡ k = omega arith in
    ap (λ x. (k - x % k) % k) whole ∙ (ap (λ x. (k - x) % k) (mod_self k) ∙ (ap (λ x. x % k) whole ∙ mod_self k))
rest_back k (suc a) l =
    let small : k - suc a < k = omega arith in
    let back : k - (k - suc a) ≡ suc a = omega arith in
    ap (λ x. (k - x) % k) (mod-eq_of_lt small) ∙ (ap (λ x. x % k) back ∙ mod-eq_of_lt l)

pub turned_right : (w : Width) (n c : ℕ) → 0 < bits w → rotate_left w n c ≡ rotate_right w n (bits w - c % bits w)
turned_right w n c p =
    let k = bits w in
    let a = c % k in
    or_comm ((n * 2 ^ a) % 2 ^ k) (n / 2 ^ ((k - a) % k))
    ∙ ap (λ x. bit_or (n / 2 ^ ((k - a) % k)) ((n * 2 ^ x) % 2 ^ k)) (sym (rest_back k a (mod-lt c p)))

pub turned_left : (w : Width) (n c : ℕ) → 0 < bits w → rotate_right w n c ≡ rotate_left w n (bits w - c % bits w)
turned_left w n c p =
    let k = bits w in
    let a = c % k in
    or_comm (n / 2 ^ a) ((n * 2 ^ ((k - a) % k)) % 2 ^ k)
    ∙ ap (λ x. bit_or ((n * 2 ^ ((k - a) % k)) % 2 ^ k) (n / 2 ^ x)) (sym (rest_back k a (mod-lt c p)))

-- ---- quotients and remainders by powers of two

pub quotient_is : (k a m : ℕ) → m < k → a / 2 ^ (m % k) % 2 ^ k ≡ a / (2 ^ m % 2 ^ k) % 2 ^ k
quotient_is k a m h = ap (λ x. a / 2 ^ x % 2 ^ k) (mod-eq_of_lt h) ∙ sym (ap (λ x. a / x % 2 ^ k) (mod-eq_of_lt (pow_below m k h)))

pub bit_place : (k a n m : ℕ) → m < k → 2 ^ m ≡ n → (a / n) % 2 ^ k ≡ (a / 2 ^ (m % 2 ^ k % k)) % 2 ^ k
bit_place k a n m h e =
    let small : m < 2 ^ k = lt_trans h (below_power k) in
    sym (ap (λ x. (a / 2 ^ (x % k)) % 2 ^ k) (mod-eq_of_lt small) ∙ (ap (λ x. (a / 2 ^ x) % 2 ^ k) (mod-eq_of_lt h) ∙ ap (λ x. (a / x) % 2 ^ k) e))

pub remainder_is : (k a n m : ℕ) → m < k → 2 ^ m ≡ n → (a % n) % 2 ^ k ≡ bit_and a ((n - 1) % 2 ^ k) % 2 ^ k
remainder_is k a n m h e =
    let l = pow_below m k h in
    let small : 2 ^ m - 1 < 2 ^ k = omega arith in
    sym (ap (λ x. bit_and a ((x - 1) % 2 ^ k) % 2 ^ k) (sym e) ∙ (ap (λ x. bit_and a x % 2 ^ k) (mod-eq_of_lt small)
    ∙ (ap (λ x. x % 2 ^ k) (and_mask a m) ∙ ap (λ x. a % x % 2 ^ k) e)))

pub mask_is : (k a n m : ℕ) → m < k → 2 ^ m ≡ n + 1 → bit_and a n % 2 ^ k ≡ (a % ((n + 1) % 2 ^ k)) % 2 ^ k
mask_is k a n m h e =
    let one_less : n ≡ 2 ^ m - 1 = omega arith in
    let small : n + 1 < 2 ^ k = subst (λ x. x < 2 ^ k) e (pow_below m k h) in
    ap (λ x. bit_and a x % 2 ^ k) one_less ∙ (ap (λ x. x % 2 ^ k) (and_mask a m)
    ∙ (ap (λ x. a % x % 2 ^ k) e ∙ sym (ap (λ x. a % x % 2 ^ k) (mod-eq_of_lt small))))

-- ---- twice a number, and times -1

pub doubled : (n : ℕ) → n * 2 ≡ n + n
doubled n = omega arith

pub times_last : (M a : ℕ) → a < M → (a * (M - 1)) % M ≡ (0 + (M - a)) % M
times_last M zero l =
    let none : 0 * (M - 1) ≡ 0 = omega arith in
    let whole : 0 + (M - 0) ≡ M = omega arith in
    ap (λ n. n % M) none ∙ (zero-mod M ∙ sym (ap (λ n. n % M) whole ∙ mod_self M))
times_last zero (suc b) l = absurd (omega arith)
times_last (suc m) (suc b) l =
    let fewer : suc m - 1 ≡ m = omega arith in
    let product : suc b * m ≡ b * suc m + (suc m - suc b) = omega arith in
    let less : suc m - suc b < suc m = omega arith in
    let alone : 0 + (suc m - suc b) ≡ suc m - suc b = omega arith in
    ap (λ n. suc b * n % suc m) fewer ∙ (ap (λ n. n % suc m) product
    ∙ (mod-mul-add b (suc m) (suc m - suc b) less ∙ sym (ap (λ n. n % suc m) alone ∙ mod-eq_of_lt less)))
