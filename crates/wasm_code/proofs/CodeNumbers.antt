-- The shortest spelling of a number is a spelling of it, and none has fewer bytes.
use Rattle.std.proofs.Common.{◌≡◌, ℕ, ℤ, pos, negsuc, neg_ℤ, ◌-ℤ◌, ◌≤ℤ◌, ◌<ℤ◌, zero, suc, ◌+◌, ◌-◌, ◌*◌, ◌%◌, ◌/◌, ◌^◌, ◌<◌, ◌≤◌, Bool}
use Rattle.std.proofs.Common.{true, false, cond, leb, List, [], ◌∷◌, length, refl, sym, ap, ◌∙◌, arith, inl, inr}
use Rattle.std.proofs.lemmas.Bool.{le-ltb, lt-ltb, cases_lt, le-leb, lt-leb, leb-true, leb-false}
use Rattle.std.proofs.lemmas.Int.{ints}
use Rattle.std.proofs.Math.Nat.{pow-suc, pow-le-pow_right}
use Rattle.std.proofs.lemmas.Nat.{pow-add}
use Rattle.wasm_code.specs.Number.{IsGroup, value, is_negative, signed_value, SpellsUnsigned, SpellsSigned, most_bytes}
use Rattle.wasm_code.specs.Code.{shortest_within, shortest, low_bits, signed_within, signed_form, shortest_signed}
use Rattle.wasm_code.proofs.NumberLemmas.{value_below}
use Rattle.wasm_code.proofs.ShortestLemmas.{within_many, form_many}

more_group : (b : ℕ) (group : List ℕ) → 128 ≤ b → IsGroup group → IsGroup (b ∷ group)
more_group b [] high g = absurd g
more_group b (c ∷ group) high g = (high, g)

record IsFormOf (k n : ℕ) (text : List ℕ) : Type 0 where
  pub group : IsGroup text
  pub is : value text ≡ n
  pub short : length text ≤ suc k

within_is : (k n : ℕ) → n < 128 ^ suc k → IsFormOf k n (shortest_within k n)
unfolding shortest_within
within_is zero n lt = record { group = omega (arith, lt); is = omega (arith, lt); short = omega arith }
within_is (suc k) n lt =
    elim (cases_lt n 128) [
      | inl small ↦ rw (lt-ltb n 128 small) (record { group = small; is = omega (arith, small); short = omega arith })
      | inr big ↦
          let t = within_is k (n / 128) (omega (arith, lt, pow-suc 128 (suc k))) in
          rw (le-ltb n 128 big) (record { group = more_group _ _ (omega arith) t.group; is = rw t.is (omega arith); short = omega (arith, t.short) })
    ]

-- no spelling has fewer bytes
least : (k n : ℕ) (text : List ℕ) → n < 128 ^ suc k → IsGroup text → value text ≡ n → length (shortest_within k n) ≤ length text
unfolding shortest_within
least k n [] lt g is = absurd g
least zero n (b ∷ text) lt g is = omega arith
least (suc k) n (b ∷ []) lt g is = let small : n < 128 = omega (arith, is) in rw (lt-ltb n 128 small) (omega arith)
least (suc k) n (b ∷ c ∷ text) lt g is =
    elim (cases_lt n 128) [
      | inl small ↦ rw (lt-ltb n 128 small) (omega arith)
      | inr big ↦
          let rest : value (c ∷ text) ≡ n / 128 = omega (arith, is) in
          rw (le-ltb n 128 big) (omega (arith, least k (n / 128) (c ∷ text) (omega (arith, lt, pow-suc 128 (suc k))) g.1 rest))
    ]

-- ---- so many bits in so many bytes

power_128 : (k : ℕ) → 128 ^ k ≡ 2 ^ (7 * k)
power_128 zero = refl
power_128 (suc k) =
    let e : 7 * suc k ≡ 7 + 7 * k = omega arith in
    rw (e, pow-add 2 7 (7 * k), pow-suc 128 k, power_128 k) (omega arith)

-- one byte less than a number of so many bits has at most
abbrev more_bytes : ℕ → ℕ
more_bytes bits = most_bytes bits - 1

fits_bytes : (bits n : ℕ) → n < 2 ^ bits → n < 128 ^ suc (more_bytes bits)
fits_bytes bits n lt =
    let le : bits ≤ 7 * suc (more_bytes bits) = omega arith in
    rw (power_128 (suc (more_bytes bits))) (omega (arith, lt, pow-le-pow_right {n = 2} (omega arith) le))

fits_half_bytes : (bits n : ℕ) → n < 2 ^ (bits - 1) → n < 64 * 128 ^ more_bytes bits
fits_half_bytes bits n lt =
    let le : bits - 1 ≤ 6 + 7 * more_bytes bits = omega arith in
    rw (power_128 (more_bytes bits)) (omega (arith, lt, pow-add 2 6 (7 * more_bytes bits), pow-le-pow_right {n = 2} (omega arith) le))

within_64 : (bits n : ℕ) → bits ≤ 64 → n < 2 ^ bits → n < 2 ^ 64
within_64 bits n le lt = omega (arith, lt, pow-le-pow_right {n = 2} (omega arith) le)

shortest_is : (bits n : ℕ) → bits ≤ 64 → n < 2 ^ bits → shortest n ≡ shortest_within (more_bytes bits) n
unfolding shortest
shortest_is bits n le lt =
    let k = more_bytes bits in
    let e : 9 ≡ (9 - k) + k = omega arith in
    ap (λ (j : ℕ). shortest_within j n) e ∙ within_many (9 - k) k n (fits_bytes bits n lt)

-- The shortest spelling of a number spells it, at any number of bits that it fits.
pub shortest_spells : (bits n : ℕ) → 1 ≤ bits → bits ≤ 64 → n < 2 ^ bits → SpellsUnsigned bits (shortest n) n
shortest_spells bits n some le lt =
    let f = within_is (more_bytes bits) n (fits_bytes bits n lt) in
    rw (shortest_is bits n le lt) (record { group = f.group; short = omega (arith, f.short); is = f.is; fits = lt })

-- No spelling of a number has fewer bytes than the shortest one.
pub shortest_least : (bits n : ℕ) (text : List ℕ) → bits ≤ 64 → SpellsUnsigned bits text n → length (shortest n) ≤ length text
unfolding shortest
shortest_least bits n text le s = let lt = within_64 bits n le s.fits in least 9 n text (omega arith) s.group s.is

-- ---- signed numbers

abbrev Sum : Bool → List ℕ → ℕ → Type 0
Sum false text n = value text ≡ n
Sum true text n = value text + (n + 1) ≡ 128 ^ length text

record IsSignedForm (k : ℕ) (negative : Bool) (n : ℕ) (text : List ℕ) : Type 0 where
  pub group : IsGroup text
  pub is : Sum negative text n
  pub short : length text ≤ suc k
  pub sign : is_negative text ≡ negative

last_cons : (b : ℕ) (text : List ℕ) → IsGroup text → is_negative (b ∷ text) ≡ is_negative text
last_cons b [] g = absurd g
last_cons b (c ∷ text) g =
    let e : suc (suc (length text)) - 1 ≡ suc (length text) = omega arith in
    let f : suc (length text) - 1 ≡ length text = omega arith in
    rw (e, f) refl

not_high : (b : ℕ) → b < 64 → leb 64 b ≡ false
not_high b lt = lt-leb 64 b lt

one_byte : (k : ℕ) (negative : Bool) (n : ℕ) → n < 64 → IsSignedForm k negative n (low_bits negative n ∷ [])
one_byte k false n lt = record { group = omega arith; is = omega arith; short = omega arith; sign = not_high (n % 128) (omega arith) }
one_byte k true n lt = record { group = omega arith; is = omega arith; short = omega arith; sign = le-leb 64 (127 - n % 128) (omega arith) }

sum_more : (negative : Bool) (n : ℕ) (text : List ℕ) → Sum negative text (n / 128) → Sum negative ((low_bits negative n + 128) ∷ text) n
sum_more false n text s = omega (arith, s)
sum_more true n text s = omega (arith, s, pow-suc 128 (length text))

low_below : (negative : Bool) (n : ℕ) → 128 ≤ low_bits negative n + 128
low_below false n = omega arith
low_below true n = omega arith

signed_is : (k : ℕ) (negative : Bool) (n : ℕ) → n < 64 * 128 ^ k → IsSignedForm k negative n (signed_within k negative n)
unfolding signed_within
signed_is zero negative n lt = one_byte 0 negative n (omega (arith, lt))
signed_is (suc k) negative n lt =
    elim (cases_lt n 64) [
      | inl small ↦ rw (lt-ltb n 64 small) (one_byte (suc k) negative n small)
      | inr big ↦
          let t = signed_is k negative (n / 128) (omega (arith, lt, pow-suc 128 k)) in
          rw (le-ltb n 64 big) (record {
            group = more_group _ _ (low_below negative n) t.group;
            is = sum_more negative n (signed_within k negative (n / 128)) t.is;
            short = omega (arith, t.short);
            sign = last_cons _ _ t.group ∙ t.sign;
          })
    ]

less_power : (v p n : ℕ) → v + (n + 1) ≡ p → pos v -ℤ pos p ≡ negsuc n
less_power v p n e = omega (arith, ints, e)

signed_value_is : (k : ℕ) (negative : Bool) (n : ℕ) (text : List ℕ) → IsSignedForm k negative n text →
    signed_value text ≡ cond negative (negsuc n) (pos n)
signed_value_is k false n text f = rw f.sign (ap pos f.is)
signed_value_is k true n text f = rw f.sign (less_power (value text) (128 ^ length text) n f.is)

form_is : (bits : ℕ) (negative : Bool) (n : ℕ) → bits ≤ 64 → n < 2 ^ (bits - 1) → signed_form negative n ≡ signed_within (more_bytes bits) negative n
unfolding signed_form
form_is bits negative n le lt =
    let k = more_bytes bits in
    let e : 9 ≡ (9 - k) + k = omega arith in
    ap (λ (j : ℕ). signed_within j negative n) e ∙ form_many (9 - k) k negative n (fits_half_bytes bits n lt)

form_spells : (bits : ℕ) (negative : Bool) (n : ℕ) (z : ℤ) → 1 ≤ bits → bits ≤ 64 → n < 2 ^ (bits - 1) → cond negative (negsuc n) (pos n) ≡ z
    → (neg_ℤ (pos (2 ^ (bits - 1))) ≤ℤ z) × (z <ℤ pos (2 ^ (bits - 1))) → SpellsSigned bits (signed_form negative n) z
form_spells bits negative n z some le lt e w =
    let f = signed_is (more_bytes bits) negative n (fits_half_bytes bits n lt) in
    rw (form_is bits negative n le lt) (record {
      group = f.group;
      short = omega (arith, f.short);
      is = signed_value_is (more_bytes bits) negative n _ f ∙ e;
      low = w.0;
      high = w.1;
    })

below_half : (half n : ℕ) → pos n <ℤ pos half → n < half
below_half half n lt = omega (arith, ints)

above_half : (half n : ℕ) → neg_ℤ (pos half) ≤ℤ negsuc n → n < half
above_half half n le = omega (arith, ints)

-- The shortest spelling of a signed number spells it, at any number of bits that it fits.
pub shortest_signed_spells : (bits : ℕ) (z : ℤ) → 1 ≤ bits → bits ≤ 64 → neg_ℤ (pos (2 ^ (bits - 1))) ≤ℤ z → z <ℤ pos (2 ^ (bits - 1)) →
    SpellsSigned bits (shortest_signed z) z
shortest_signed_spells bits (pos n) some le low high = form_spells bits false n (pos n) some le (below_half _ n high) refl (low, high)
shortest_signed_spells bits (negsuc n) some le low high = form_spells bits true n (negsuc n) some le (above_half _ n low) refl (low, high)

-- ---- no spelling of a signed number has fewer bytes

last_low : (b n : ℕ) (negative : Bool) → b < 128 → leb 64 b ≡ negative → Sum negative (b ∷ []) n → n < 64
last_low b n false lt e s = let low = leb-false 64 b e in omega (arith, s)
last_low b n true lt e s = let high = leb-true 64 b e in omega (arith, s)

sum_rest : (negative : Bool) (b n : ℕ) (text : List ℕ) → Sum negative (b ∷ text) n → Sum negative text (n / 128)
sum_rest false b n text s = omega (arith, s)
sum_rest true b n text s = omega (arith, s, pow-suc 128 (length text))

least_signed : (k : ℕ) (negative : Bool) (n : ℕ) (text : List ℕ) → n < 64 * 128 ^ k → IsGroup text → is_negative text ≡ negative →
    Sum negative text n → length (signed_within k negative n) ≤ length text
unfolding signed_within
least_signed k negative n [] lt g e s = absurd g
least_signed zero negative n (b ∷ text) lt g e s = omega arith
least_signed (suc k) negative n (b ∷ []) lt g e s = let small = last_low b n negative g e s in rw (lt-ltb n 64 small) (omega arith)
least_signed (suc k) negative n (b ∷ c ∷ text) lt g e s =
    elim (cases_lt n 64) [
      | inl small ↦ rw (lt-ltb n 64 small) (omega arith)
      | inr big ↦
          let rest = least_signed k negative (n / 128) (c ∷ text) (omega (arith, lt, pow-suc 128 k)) g.1 (sym (last_cons b (c ∷ text) g.1) ∙ e)
          (sum_rest negative b n (c ∷ text) s) in
          rw (le-ltb n 64 big) (omega (arith, rest))
    ]

-- the sign and the sum of a group whose number is n, or -1 - n
pos_sum : (v : Bool) (text : List ℕ) (n : ℕ) → is_negative text ≡ v → cond v (pos (value text) -ℤ pos (128 ^ length text)) (pos (value text))
    ≡ pos n → (v ≡ false) × (value text ≡ n)
pos_sum false text n e s = (refl, cc)
pos_sum true text n e s = let below = value_below text in absurd (omega (arith, ints, s))

negsuc_sum : (v : Bool) (text : List ℕ) (n : ℕ) → is_negative text ≡ v → cond v (pos (value text) -ℤ pos (128 ^ length text)) (pos (value text))
    ≡ negsuc n → (v ≡ true) × (value text + (n + 1) ≡ 128 ^ length text)
negsuc_sum false text n e s = absurd cc
negsuc_sum true text n e s = let below = value_below text in (refl, omega (arith, ints, s))

below_form : (bits n : ℕ) → bits ≤ 64 → n < 2 ^ (bits - 1) → n < 64 * 128 ^ 9
below_form bits n le lt = let e : bits - 1 ≤ 64 = omega arith in omega (arith, within_64 (bits - 1) n e lt)

-- No spelling of a signed number has fewer bytes than the shortest one.
pub shortest_signed_least : (bits : ℕ) (z : ℤ) (text : List ℕ) → bits ≤ 64 → SpellsSigned bits text z → length (shortest_signed z) ≤ length text
unfolding signed_form
shortest_signed_least bits (pos n) text le s =
    let p = pos_sum (is_negative text) text n refl s.is in
    least_signed 9 false n text (below_form bits n le (below_half _ n s.high)) s.group p.0 p.1
shortest_signed_least bits (negsuc n) text le s =
    let p = negsuc_sum (is_negative text) text n refl s.is in
    least_signed 9 true n text (below_form bits n le (above_half _ n s.low)) s.group p.0 p.1
