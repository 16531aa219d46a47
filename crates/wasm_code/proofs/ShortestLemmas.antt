-- The shortest spellings, a byte at a time.
use Rattle.std.proofs.Common.{◌≡◌, ℕ, zero, suc, ◌+◌, ◌*◌, ◌%◌, ◌/◌, ◌^◌, ◌<◌, ◌≤◌, Bool, List, [], ◌∷◌, ◌++◌, refl, sym, ap, ◌∙◌}
use Rattle.std.proofs.Common.{append_assoc, arith, inl, inr}
use Rattle.std.proofs.lemmas.Bool.{le-ltb, lt-ltb, cases_lt}
use Rattle.std.proofs.Math.Nat.{pow-suc, pow-le-pow_right}
use Rattle.wasm_code.specs.Code.{shortest_within, shortest, low_bits, signed_within, signed_form, BeginsWith}

pub within_more : (k n : ℕ) → n < 128 ^ suc k → shortest_within (suc k) n ≡ shortest_within k n
unfolding shortest_within
within_more zero n lt = rw (lt-ltb n 128 (omega (arith, lt))) refl
within_more (suc k) n lt =
    elim (cases_lt n 128) [
      | inl small ↦ rw (lt-ltb n 128 small) refl
      | inr big ↦ rw (le-ltb n 128 big, within_more k (n / 128) (omega (arith, lt, pow-suc 128 (suc k)))) refl
    ]

-- more bytes than a number needs make no difference
pub within_many : (j k n : ℕ) → n < 128 ^ suc k → shortest_within (j + k) n ≡ shortest_within k n
within_many zero k n lt = let e : zero + k ≡ k = omega arith in rw e refl
within_many (suc j) k n lt =
    let le : suc k ≤ suc (j + k) = omega arith in
    let below : n < 128 ^ suc (j + k) = omega (arith, lt, pow-le-pow_right {n = 128} (omega arith) le) in
    let e : suc j + k ≡ suc (j + k) = omega arith in
    rw e (within_more (j + k) n below ∙ within_many j k n lt)

pub shortest_last : (n : ℕ) → n < 128 → shortest n ≡ n ∷ []
unfolding shortest shortest_within
shortest_last n lt = rw (lt-ltb n 128 lt) refl

pub shortest_more : (n : ℕ) → 128 ≤ n → n < 2 ^ 64 → shortest n ≡ (n % 128 + 128) ∷ shortest (n / 128)
unfolding shortest shortest_within
shortest_more n big lt = rw (le-ltb n 128 big) (ap (λ (l : List ℕ). (n % 128 + 128) ∷ l) (sym (within_more 8 (n / 128) (omega arith))))

pub form_more : (k : ℕ) (negative : Bool) (n : ℕ) → n < 64 * 128 ^ k → signed_within (suc k) negative n ≡ signed_within k negative n
unfolding signed_within
form_more zero negative n lt = rw (lt-ltb n 64 (omega (arith, lt))) refl
form_more (suc k) negative n lt =
    elim (cases_lt n 64) [
      | inl small ↦ rw (lt-ltb n 64 small) refl
      | inr big ↦ rw (le-ltb n 64 big, form_more k negative (n / 128) (omega (arith, lt, pow-suc 128 k))) refl
    ]

pub form_many : (j k : ℕ) (negative : Bool) (n : ℕ) → n < 64 * 128 ^ k → signed_within (j + k) negative n ≡ signed_within k negative n
form_many zero k negative n lt = let e : zero + k ≡ k = omega arith in rw e refl
form_many (suc j) k negative n lt =
    let le : k ≤ j + k = omega arith in
    let below : n < 64 * 128 ^ (j + k) = omega (arith, lt, pow-le-pow_right {n = 128} (omega arith) le) in
    let e : suc j + k ≡ suc (j + k) = omega arith in
    rw e (form_more (j + k) negative n below ∙ form_many j k negative n lt)

pub form_last : (negative : Bool) (n : ℕ) → n < 64 → signed_form negative n ≡ low_bits negative n ∷ []
unfolding signed_form signed_within
form_last negative n lt = rw (lt-ltb n 64 lt) refl

pub form_step : (negative : Bool) (n : ℕ) → 64 ≤ n → n < 2 ^ 64 → signed_form negative n ≡ (low_bits negative n + 128) ∷ signed_form negative
    (n / 128)
unfolding signed_form signed_within
form_step negative n big lt = rw (le-ltb n 64 big) (ap (λ (l : List ℕ). (low_bits negative n + 128) ∷ l)
    (sym (form_more 8 negative (n / 128) (omega arith))))

-- ---- a loop that pushes one byte after another

pub shift : (items items' tail more total : List ℕ) (b : ℕ) → items' ≡ items ++ b ∷ [] → tail ≡ b ∷ more → items ++ tail ≡ total →
    items' ++ more ≡ total
shift items items' tail more total b p t e = ap (λ (l : List ℕ). l ++ more) p ∙ append_assoc items (b ∷ []) more
    ∙ ap (λ (l : List ℕ). items ++ l) (sym t) ∙ e

pub finish : (items items' tail total : List ℕ) (b : ℕ) → items' ≡ items ++ b ∷ [] → tail ≡ b ∷ [] → items ++ tail ≡ total → items' ≡ total
finish items items' tail total b p t e = p ∙ ap (λ (l : List ℕ). items ++ l) (sym t) ∙ e

pub kept_more : (front items items' : List ℕ) (b : ℕ) → items' ≡ items ++ b ∷ [] → BeginsWith items front → BeginsWith items' front
kept_more front items items' b p kept = (kept.0 ++ b ∷ [], p ∙ ap (λ (l : List ℕ). l ++ b ∷ []) kept.1 ∙ append_assoc front kept.0 (b ∷ []))
