-- How many bytes the shortest spelling of a number has, by the laws on spellings alone.
use Rattle.std.proofs.Common.{◌≡◌, ℕ, suc, ◌+◌, ◌%◌, ◌/◌, ◌^◌, ◌<◌, ◌≤◌, List, [], ◌∷◌, length, arith}
use Rattle.wasm_code.specs.Code.{shortest}
use Rattle.wasm_code.specs.Number.{IsGroup, SpellsUnsigned}

goes_on : (b : ℕ) (bytes : List ℕ) → 128 ≤ b → IsGroup bytes → IsGroup (b ∷ bytes)
goes_on b [] l g = absurd g
goes_on b (c ∷ bytes) l g = (l, g)

is_there : (bytes : List ℕ) → IsGroup bytes → 1 ≤ length bytes
is_there [] g = absurd g
is_there (b ∷ bytes) g = omega arith

module _ (spelled : (bits n : ℕ) → 1 ≤ bits → bits ≤ 64 → n < 2 ^ bits → SpellsUnsigned bits (shortest n) n) where
  pub one_byte : (n : ℕ) → n < 128 → length (shortest n) ≡ 1
  one_byte n l =
      let s = spelled 7 n (omega arith) (omega arith) l in
      omega (arith, s.short, is_there (shortest n) s.group)

  module _ (least : (bits n : ℕ) (text : List ℕ) → bits ≤ 64 → SpellsUnsigned bits text n → length (shortest n) ≤ length text) where
    -- the low seven bits before what spells the rest spell the number
    at_most : (n : ℕ) → 128 ≤ n → n < 2 ^ 32 → length (shortest n) ≤ suc (length (shortest (n / 128)))
    at_most n big l =
        let s = spelled 25 (n / 128) (omega arith) (omega arith) (omega (arith, l)) in
        least 32 n ((n % 128 + 128) ∷ shortest (n / 128)) (omega arith) (record {
          group = goes_on (n % 128 + 128) (shortest (n / 128)) (omega arith) s.group;
          short = omega (arith, s.short);
          is = omega (arith, s.is);
          fits = l;
        })

    -- what follows the first byte spells the rest
    behind_first : (n : ℕ) (bytes : List ℕ) → 128 ≤ n → SpellsUnsigned 32 bytes n → suc (length (shortest (n / 128))) ≤ length bytes
    behind_first n [] big s = absurd s.group
    behind_first n (b ∷ []) big s = absurd (omega (arith, s.is, big))
    behind_first n (b ∷ c ∷ bytes) big s =
        let k : length (shortest (n / 128)) ≤ length (c ∷ bytes) = least 25 (n / 128) (c ∷ bytes) (omega arith) (record {
          group = s.group.1;
          short = omega (arith, s.short);
          is = omega (arith, s.is);
          fits = omega (arith, s.fits);
        }) in
        omega (arith, k)

    pub one_byte_more : (n : ℕ) → 128 ≤ n → n < 2 ^ 32 → length (shortest n) ≡ suc (length (shortest (n / 128)))
    one_byte_more n big l =
        let k = at_most n big l in
        let j = behind_first n (shortest n) big (spelled 32 n (omega arith) (omega arith) l) in
        omega (arith, k, j)
