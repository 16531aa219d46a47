-- A signed number's decimal text is read back (this project).
use Rattle.std.proofs.Common.{◌≡◌, ◌≢◌, ℕ, suc, ◌+◌, ◌-◌, ◌^◌, ◌<◌, get_or, Some, ℤ, pos, negsuc, neg_ℤ, ◌≤ℤ◌, ◌<ℤ◌, ◌≤◌, refl, ap, ◌∙◌, lit<, arith}
use Rattle.std.specs.Fmt.{decimal, signed_decimal}
use Rattle.std.specs.Option.{option_map}
use lib.Signed.{mag}
use Rattle.std.proofs.lemmas.Bool.{ne_eqb}
use Rattle.std.proofs.lemmas.Int.{ints}
use Rattle.std.proofs.Math.Nat.{pow-le-pow_right}
use Rattle.std.proofs.lemmas.Fmt.{decimal_is_IsNumeral_wide}
use Rattle.std.proofs.lemmas.Str.Parse.{not_in_digits, without_leading_plus_none}
use Rattle.peephole_payloads.specs.Number.{read_below, read_signed}
use Rattle.peephole_payloads.specs.laws.NumberLemmas.{own, below}

lacks_sign : (n c : ℕ) → n < 10 ^ 64 → c < 48 → get_or (decimal n) 0 0 ≢ c
lacks_sign n c small low =
    let numeral = (decimal_is_IsNumeral_wide n small).0 in
    not_in_digits own (decimal n) c (own.from (decimal n) numeral.1) (λ digit. absurd (omega (arith, digit.0))) 0 numeral.0

read_decimal : (n limit : ℕ) → n < 10 ^ 64 → n < limit → read_below limit (decimal n) ≡ Some n
read_decimal n limit small fits =
    let numeral = decimal_is_IsNumeral_wide n small in
    below limit (decimal n) (own.from (decimal n) numeral.0.1) numeral.0.0 (rw numeral.1 fits) ∙ ap (λ m. Some m) numeral.1

-- a signed number of that many bits, of which the text is decimal
pub signed_back : (bits : ℕ) (z : ℤ) → mag z < 2 ^ (bits - 1) → mag z + 1 < 10 ^ 64 → read_signed bits (signed_decimal z) ≡ Some z
signed_back bits (pos n) fits small =
    let few : n < 10 ^ 64 = omega arith in
    rw (
      ne_eqb (get_or (decimal n) 0 0) 45 (lacks_sign n 45 few (lit< tt)),
      without_leading_plus_none (decimal n) (lacks_sign n 43 few (lit< tt)),
      read_decimal n (2 ^ (bits - 1)) few fits,
    ) refl
signed_back bits (negsuc n) fits small =
    let few : suc n < 10 ^ 64 = omega arith in
    ap (option_map (λ m. neg_ℤ (pos m))) (read_decimal (suc n) (2 ^ (bits - 1) + 1) few (omega arith))

-- how far a number in range is from 0, or from -1
in_range : (half : ℕ) (z : ℤ) → neg_ℤ (pos half) ≤ℤ z → z <ℤ pos half → mag z < half
in_range half (pos n) low high = omega (arith, ints, high)
in_range half (negsuc n) low high = omega (arith, ints, low)

-- the same for a number in range
pub signed_in_range_back : (bits : ℕ) (z : ℤ) → bits ≤ 128 → neg_ℤ (pos (2 ^ (bits - 1))) ≤ℤ z → z <ℤ pos (2 ^ (bits - 1)) →
    read_signed bits (signed_decimal z) ≡ Some z
signed_in_range_back bits z most low high =
    let fits = in_range (2 ^ (bits - 1)) z low high in
    let less : bits - 1 ≤ 127 = omega arith in
    let power : 2 ^ (bits - 1) ≤ 2 ^ 127 = pow-le-pow_right {n = 2} (omega arith) less in
    signed_back bits z fits (omega (arith, fits, power))
