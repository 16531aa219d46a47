-- Operators whose operands may be grouped either way, and those that go over the parts of an operand, on the low bits of numbers.
use Rattle.std.proofs.Common.{◌≡◌, ℕ, ◌+◌, ◌*◌, ◌%◌, ◌^◌, ◌<◌, sym, ap, ap₂, ◌∙◌, arith}
use Rattle.std.specs.Prelude.{bit_and, bit_or, bit_xor, max, min}
use Rattle.std.specs.Int.{bit_at}
use Rattle.std.specs.Int.Bits.{xor_assoc}
use Rattle.std.proofs.Math.Nat.{add_assoc, mul_assoc, mod-mod, mod-eq_of_lt, mod-add-mod, add-mod-mod, add-mul}
use Rattle.std.proofs.lemmas.Nat.{and_assoc, and_mod, or_mod, xor_mod, mul-mod_first, mul-mod_second}
use Rattle.std.proofs.lemmas.Nat.Bits.{bit_at_or, same_from_bits, bit_at_and}

-- ---- operators that may be grouped either way

-- what is left of the results below M is the same in both groupings
abbrev pub IsGrouped : (M : ℕ) → (ℕ → ℕ → ℕ) → Type 0
IsGrouped M g = (a b c : ℕ) → g a (g b c % M) % M ≡ g (g a b % M) c % M

grouped : (M : ℕ) (g : ℕ → ℕ → ℕ) → ((a b : ℕ) → g a (b % M) % M ≡ g a b % M) → ((a b : ℕ) → g (a % M) b % M ≡ g a b % M) →
    ((a b c : ℕ) → g (g a b) c ≡ g a (g b c)) → IsGrouped M g
grouped M g right left assoc a b c = right a (g b c) ∙ (ap (λ n. n % M) (sym (assoc a b c)) ∙ sym (left (g a b) c))

pub add_grouped : (M : ℕ) → IsGrouped M (λ a b. a + b)
add_grouped M = grouped M (λ a b. a + b) (λ a b. add-mod-mod a b M) (λ a b. mod-add-mod a M b) add_assoc

pub mul_grouped : (M : ℕ) → IsGrouped M (λ a b. a * b)
mul_grouped M = grouped M (λ a b. a * b) (λ a b. mul-mod_second a b M) (λ a b. mul-mod_first a b M) mul_assoc

max_assoc : (a b c : ℕ) → max (max a b) c ≡ max a (max b c)
max_assoc a b c = omega arith

or_assoc : (a b c : ℕ) → bit_or (bit_or a b) c ≡ bit_or a (bit_or b c)
or_assoc a b c = same_from_bits (bit_or (bit_or a b) c) (bit_or a (bit_or b c))
    (λ i. bit_at_or (bit_or a b) c i ∙ (ap (λ n. max n (bit_at c i)) (bit_at_or a b i) ∙ (max_assoc (bit_at a i) (bit_at b i) (bit_at c i)
    ∙ sym (bit_at_or a (bit_or b c) i ∙ ap (max (bit_at a i)) (bit_at_or b c i)))))

-- an operator bit by bit
bitwise : (k : ℕ) (g : ℕ → ℕ → ℕ) → ((a b : ℕ) → g a b % 2 ^ k ≡ g (a % 2 ^ k) (b % 2 ^ k)) → ((a b c : ℕ) → g (g a b) c ≡ g a (g b c)) →
    IsGrouped (2 ^ k) g
bitwise k g low assoc = grouped (2 ^ k) g
    (λ a b. low a (b % 2 ^ k) ∙ (ap (g (a % 2 ^ k)) (mod-mod b (2 ^ k)) ∙ sym (low a b)))
    (λ a b. low (a % 2 ^ k) b ∙ (ap (λ n. g n (b % 2 ^ k)) (mod-mod a (2 ^ k)) ∙ sym (low a b))) assoc

pub and_grouped : (k : ℕ) → IsGrouped (2 ^ k) bit_and
and_grouped k = bitwise k bit_and (λ a b. and_mod a b k) (λ a b c. and_assoc c a b)

pub or_grouped : (k : ℕ) → IsGrouped (2 ^ k) bit_or
or_grouped k = bitwise k bit_or (λ a b. or_mod a b k) or_assoc

pub xor_grouped : (k : ℕ) → IsGrouped (2 ^ k) bit_xor
xor_grouped k = bitwise k bit_xor (λ a b. xor_mod a b k) xor_assoc

-- ---- operators that change nothing a second time

pub once_in_front : (M : ℕ) (g : ℕ → ℕ → ℕ) → IsGrouped M g → ((a : ℕ) → g a a ≡ a) → (a b : ℕ) → a < M → g a (g a b % M) % M ≡ g a b % M
once_in_front M g grouped self a b l = grouped a a b ∙ ap (λ n. g n b % M) (ap (λ n. n % M) (self a) ∙ mod-eq_of_lt l)

pub once_behind : (M : ℕ) (g : ℕ → ℕ → ℕ) → IsGrouped M g → ((a : ℕ) → g a a ≡ a) → (a b : ℕ) → b < M → g (g a b % M) b % M ≡ g a b % M
once_behind M g grouped self a b l = sym (grouped a b b) ∙ ap (λ n. g a n % M) (ap (λ n. n % M) (self b) ∙ mod-eq_of_lt l)

-- ---- operators that take an operand back out of what another made of it

min_of_max : (a b : ℕ) → min a (max a b) ≡ a
min_of_max a b = omega arith

max_of_min : (a b : ℕ) → max a (min a b) ≡ a
max_of_min a b = omega arith

and_of_or : (a b : ℕ) → bit_and a (bit_or a b) ≡ a
and_of_or a b = same_from_bits (bit_and a (bit_or a b)) a
    (λ i. bit_at_and a (bit_or a b) i ∙ (ap (min (bit_at a i)) (bit_at_or a b i) ∙ min_of_max (bit_at a i) (bit_at b i)))

or_of_and : (a b : ℕ) → bit_or a (bit_and a b) ≡ a
or_of_and a b = same_from_bits (bit_or a (bit_and a b)) a
    (λ i. bit_at_or a (bit_and a b) i ∙ (ap (max (bit_at a i)) (bit_at_and a b i) ∙ max_of_min (bit_at a i) (bit_at b i)))

pub and_taken : (k a b : ℕ) → a < 2 ^ k → bit_and a (bit_or a b % 2 ^ k) % 2 ^ k ≡ a
and_taken k a b l =
    let M = 2 ^ k in
    and_mod a (bit_or a b % M) k ∙ (ap (bit_and (a % M)) (mod-mod (bit_or a b) M)
    ∙ (sym (and_mod a (bit_or a b) k) ∙ (ap (λ n. n % M) (and_of_or a b) ∙ mod-eq_of_lt l)))

pub or_taken : (k a b : ℕ) → a < 2 ^ k → bit_or a (bit_and a b % 2 ^ k) % 2 ^ k ≡ a
or_taken k a b l =
    let M = 2 ^ k in
    or_mod a (bit_and a b % M) k ∙ (ap (bit_or (a % M)) (mod-mod (bit_and a b) M)
    ∙ (sym (or_mod a (bit_and a b) k) ∙ (ap (λ n. n % M) (or_of_and a b) ∙ mod-eq_of_lt l)))

-- ---- over the parts of a sum, or of a union

pub sum_times : (M a b c : ℕ) → ((a + b) % M * c) % M ≡ ((a * c) % M + (b * c) % M) % M
sum_times M a b c = mul-mod_first (a + b) c M ∙ (ap (λ x. x % M) (add-mul a b c)
    ∙ sym (mod-add-mod (a * c) M ((b * c) % M) ∙ add-mod-mod (a * c) (b * c) M))

min_over_max : (a b c : ℕ) → min (max a b) c ≡ max (min a c) (min b c)
min_over_max a b c = omega arith

or_and_plain : (a b c : ℕ) → bit_and (bit_or a b) c ≡ bit_or (bit_and a c) (bit_and b c)
or_and_plain a b c = same_from_bits (bit_and (bit_or a b) c) (bit_or (bit_and a c) (bit_and b c))
    (λ i. bit_at_and (bit_or a b) c i ∙ (ap (λ x. min x (bit_at c i)) (bit_at_or a b i) ∙ (min_over_max (bit_at a i) (bit_at b i) (bit_at c i)
    ∙ sym (bit_at_or (bit_and a c) (bit_and b c) i ∙ ap₂ max (bit_at_and a c i) (bit_at_and b c i)))))

pub or_and : (k a b c : ℕ) → bit_and (bit_or a b % 2 ^ k) c % 2 ^ k ≡ bit_or (bit_and a c % 2 ^ k) (bit_and b c % 2 ^ k) % 2 ^ k
or_and k a b c =
    let M = 2 ^ k in
    and_mod (bit_or a b % M) c k ∙ (ap (λ x. bit_and x (c % M)) (mod-mod (bit_or a b) M) ∙ (sym (and_mod (bit_or a b) c k)
    ∙ (ap (λ x. x % M) (or_and_plain a b c) ∙ (or_mod (bit_and a c) (bit_and b c) k
    ∙ sym (or_mod (bit_and a c % M) (bit_and b c % M) k ∙ ap₂ bit_or (mod-mod (bit_and a c) M) (mod-mod (bit_and b c) M))))))
