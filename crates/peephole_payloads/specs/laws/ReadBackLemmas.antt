-- What is written is read back (this project).
use Rattle.std.proofs.Common.{◌≡◌, ◌≢◌, ℕ, ◌^◌, ◌<◌, List, [], ◌∷◌, map, length, get_or, Some, Ok, refl, ap, ◌∙◌, append-nil, arith, lit<}
use Rattle.std.specs.Fmt.{decimal}
use Rattle.std.specs.List.{AllByRecursion}
use Rattle.std.proofs.lemmas.Fmt.{digits_decimal, digits_value-decimal, decimal_nonempty}
use Rattle.std.proofs.lemmas.Str.Parse.{not_in_digits, without_leading_plus_none}
use Rattle.peephole_payloads.specs.Number.{read_below, read_unsigned}
use Rattle.peephole_payloads.specs.PayloadText.{dotted, dot_parts, read_pair, read_mem_parts, read_lane_parts, read_lanes}
use Rattle.peephole_payloads.specs.laws.NumberLemmas.{own, below}
use Rattle.peephole_payloads.specs.laws.PartsLemmas.{HasNoDot, one_part, front_part, lanes_is}

lacks_sign : (n c i : ℕ) → n < 2 ^ 64 → c < 48 → i < length (decimal n) → get_or (decimal n) i 0 ≢ c
lacks_sign n c i small low inside = not_in_digits own (decimal n) c (digits_decimal own n small) (λ digit. absurd (omega (arith, digit.0))) i inside

read_decimal : (n limit : ℕ) → n < 2 ^ 64 → n < limit → read_below limit (decimal n) ≡ Some n
read_decimal n limit small fits =
    let value = digits_value-decimal own n small in
    below limit (decimal n) (digits_decimal own n small) (decimal_nonempty n small) (rw value fits) ∙ ap (λ m. Some m) value

-- a number of that many bits, of which the text is decimal
pub unsigned_back : (bits n : ℕ) → n < 2 ^ bits → n < 2 ^ 64 → read_unsigned bits (decimal n) ≡ Some n
unsigned_back bits n fits small =
    ap (read_below (2 ^ bits)) (without_leading_plus_none (decimal n) (lacks_sign n 43 0 small (lit< tt) (decimal_nonempty n small)))
    ∙ read_decimal n (2 ^ bits) small fits

abbrev Small : ℕ → Type 0
Small n = n < 2 ^ 64

no_dot : (n : ℕ) → n < 2 ^ 64 → HasNoDot (decimal n)
no_dot n small = λ i inside. lacks_sign n 46 i small (lit< tt) inside

pub parts_back : (n : ℕ) (ns : List ℕ) → AllByRecursion Small (n ∷ ns) → dot_parts (dotted (n ∷ ns)) ≡ map decimal (n ∷ ns)
parts_back n [] small = ap dot_parts (append-nil (decimal n)) ∙ one_part (decimal n) (no_dot n small.0)
parts_back n (m ∷ ms) small = front_part (decimal n) (dotted (m ∷ ms)) (no_dot n small.0) ∙ ap (λ ps. decimal n ∷ ps) (parts_back m ms small.1)

pub pair_back : (a b : ℕ) → a < 2 ^ 32 → b < 2 ^ 32 → read_pair (dot_parts (dotted (a ∷ b ∷ []))) ≡ Ok (a, b)
pair_back a b fits_a fits_b =
    let small_a : a < 2 ^ 64 = omega arith in
    let small_b : b < 2 ^ 64 = omega arith in
    ap read_pair (parts_back a (b ∷ []) (small_a, (small_b, tt)))
    ∙ rw (unsigned_back 32 a fits_a small_a, unsigned_back 32 b fits_b small_b) refl

pub mem_parts_back : (a b c : ℕ) → a < 2 ^ 64 → b < 2 ^ 8 → c < 2 ^ 32 →
    read_mem_parts (decimal a ∷ decimal b ∷ decimal c ∷ []) ≡ Ok (record { static_offset = a; align = b; mem = c })
mem_parts_back a b c fits_a fits_b fits_c =
    rw (unsigned_back 64 a fits_a fits_a, unsigned_back 8 b fits_b (omega arith), unsigned_back 32 c fits_c (omega arith)) refl

pub mem_arg_back : (a b c : ℕ) → a < 2 ^ 64 → b < 2 ^ 8 → c < 2 ^ 32 →
    read_mem_parts (dot_parts (dotted (a ∷ b ∷ c ∷ []))) ≡ Ok (record { static_offset = a; align = b; mem = c })
mem_arg_back a b c fits_a fits_b fits_c =
    ap read_mem_parts (parts_back a (b ∷ c ∷ []) (fits_a, (omega arith, (omega arith, tt)))) ∙ mem_parts_back a b c fits_a fits_b fits_c

pub lane_back : (a b c d : ℕ) → a < 2 ^ 64 → b < 2 ^ 8 → c < 2 ^ 32 → d < 2 ^ 8
    → read_lane_parts (dot_parts (dotted (a ∷ b ∷ c ∷ d ∷ []))) ≡ Ok (record { memarg = record { static_offset = a; align = b; mem = c }; lane = d })
lane_back a b c d fits_a fits_b fits_c fits_d =
    ap read_lane_parts (parts_back a (b ∷ c ∷ d ∷ []) (fits_a, (omega arith, (omega arith, (omega arith, tt)))))
    ∙ lanes_is (decimal a ∷ decimal b ∷ decimal c ∷ []) (decimal d)
    ∙ rw (unsigned_back 8 d fits_d (omega arith), mem_parts_back a b c fits_a fits_b fits_c) refl

abbrev Byte : ℕ → Type 0
Byte n = n < 256

pub lanes_back : (ns : List ℕ) → AllByRecursion Byte ns → read_lanes (map decimal ns) ≡ Ok ns
lanes_back [] fits = refl
lanes_back (n ∷ ns) fits = rw (unsigned_back 8 n fits.0 (omega arith), lanes_back ns fits.1) refl

pub all_small : (ns : List ℕ) → AllByRecursion Byte ns → AllByRecursion Small ns
all_small [] fits = tt
all_small (n ∷ ns) fits = (omega (arith, fits.0), all_small ns fits.1)
