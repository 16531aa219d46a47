-- Whole numbers as texts, read as Rust's `parse` reads them (this project): decimal digits, in which leading zeros are
-- allowed, behind at most one plus sign, or one minus sign where the type is signed.
use Rattle.std.specs.Prelude.{ℕ, ◌+◌, ◌-◌, ◌^◌, nat_lt, ◌&&◌, List, length, drop, ℤ, pos, neg_ℤ, Option, Some, if◌then◌else◌, None}
use Rattle.std.specs.Option.{option_map}
use Rattle.std.specs.Str.{all_ascii_digits}
use Rattle.std.specs.Str.Parse.{digits_value, without_leading_plus, starts_with_minus}

-- the number below a limit that the digits write
abbrev pub read_below : ℕ → List ℕ → Option ℕ
read_below limit digits =
    if nat_lt 0 (length digits) && all_ascii_digits digits && nat_lt (digits_value 10 digits) limit then Some (digits_value 10 digits) else None

-- the number of an unsigned type of that many bits
abbrev pub read_unsigned : ℕ → List ℕ → Option ℕ
read_unsigned bits text = read_below (2 ^ bits) (without_leading_plus text)

-- the number of a signed type of that many bits
abbrev pub read_signed : ℕ → List ℕ → Option ℤ
read_signed bits text =
    if starts_with_minus text then option_map (λ n. neg_ℤ (pos n)) (read_below (2 ^ (bits - 1) + 1) (drop 1 text))
    else option_map (λ n. pos n) (read_below (2 ^ (bits - 1)) (without_leading_plus text))
