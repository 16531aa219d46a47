-- Saturation, averages, and conversions between integers and floats: numbers that are brought into a range, or rounded, on bits
-- (WebAssembly Core Specification 3.0, Execution, Numerics, Integer Operations and Conversions).
use Rattle.std.specs.Prelude.{ℕ, zero, suc, ◌+◌, ◌-◌, ◌*◌, ◌/◌, ◌%◌, ◌^◌, ℤ, pos, neg_ℤ, ◌+ℤ◌, ◌*ℤ◌, ◌==◌, nat_lt, nat_le, if◌then◌else◌, min}
use Rattle.std.specs.Int.{Width, w16, w32, w64, cast_signed, cast_unsigned, int_shr, leading_zeros, saturate_signed, saturate_unsigned}
use mir.Val.{bits}
use Rattle.wasm_execution.specs.Lanes.{sign_bit, magnitude, infinity}

-- ---- integers

-- a number with sign as the nearest one that the width has, with its sign (sat_s); the same of those without sign (sat_u)
abbrev pub to_signed : Width → ℤ → ℕ
to_signed w z = cast_unsigned w (saturate_signed w z)

abbrev pub to_unsigned : Width → ℤ → ℕ
to_unsigned w z = saturate_unsigned w z

-- sums and differences that saturate
abbrev pub add_sat_s : Width → ℕ → ℕ → ℕ
add_sat_s w n m = to_signed w (cast_signed w n +ℤ cast_signed w m)

abbrev pub sub_sat_s : Width → ℕ → ℕ → ℕ
sub_sat_s w n m = to_signed w (cast_signed w n +ℤ neg_ℤ (cast_signed w m))

abbrev pub add_sat_u : Width → ℕ → ℕ → ℕ
add_sat_u w n m = min (n + m) (2 ^ bits w - 1)

abbrev pub sub_sat_u : Width → ℕ → ℕ → ℕ
sub_sat_u w n m = n - m

-- the mean, rounded up
abbrev pub average : ℕ → ℕ → ℕ
average n m = (n + m + 1) / 2

-- the product of numbers with 15 bits behind the point, rounded
abbrev pub q15_product : ℕ → ℕ → ℕ
q15_product n m = to_signed w16 (int_shr (cast_signed w16 n *ℤ cast_signed w16 m +ℤ pos (2 ^ 14)) 15)

-- the product of the halves of a lane of 32 bits, with their signs, and the sum of those of both halves
abbrev pub half_product : ℕ → ℕ → ℤ
half_product n m = cast_signed w16 n *ℤ cast_signed w16 m

abbrev pub dot_product : ℕ → ℕ → ℕ
dot_product n m = cast_unsigned w32 (half_product (n % 2 ^ 16) (m % 2 ^ 16) +ℤ half_product (n / 2 ^ 16) (m / 2 ^ 16))

-- ---- floats as integers

-- the bits of a float's fraction, and what its exponent is greater by
abbrev pub fraction_bits : Width → ℕ
fraction_bits w = if bits w == 32 then 23 else 52

abbrev pub bias : Width → ℕ
bias w = if bits w == 32 then 127 else 1023

-- the whole part of a magnitude; that of the infinity is beyond every integer's width
abbrev pub whole_part : Width → ℕ → ℕ
whole_part w n = (2 ^ fraction_bits w + n % 2 ^ fraction_bits w) * 2 ^ (n / 2 ^ fraction_bits w) / 2 ^ (bias w + fraction_bits w)

-- towards zero (trunc)
abbrev pub truncated : Width → ℕ → ℤ
truncated w n = if nat_lt n (sign_bit w) then pos (whole_part w (magnitude w n)) else neg_ℤ (pos (whole_part w (magnitude w n)))

-- the same, saturated; 0 of a NaN (trunc_sat_s, trunc_sat_u)
abbrev pub trunc_sat_s : Width → Width → ℕ → ℕ
trunc_sat_s from to n = if nat_le (magnitude from n) (infinity from) then to_signed to (truncated from n) else 0

abbrev pub trunc_sat_u : Width → Width → ℕ → ℕ
trunc_sat_u from to n = if nat_le (magnitude from n) (infinity from) then to_unsigned to (truncated from n) else 0

-- ---- integers as floats

-- the number without its last bits, rounded to the nearest, and to an even one of two that are as near
abbrev pub rounded : (last : ℕ) → ℕ → ℕ
rounded last n = n / 2 ^ last + (if nat_lt (2 ^ last) (n % 2 ^ last * 2 + n / 2 ^ last % 2) then 1 else 0)

-- so many bits a number has, of those below 2^64
abbrev pub bit_length : ℕ → ℕ
bit_length n = 64 - leading_zeros w64 n

-- the bits of a number of that length as those of a fraction, with the bit above it that isn't written
abbrev pub significand : Width → (length : ℕ) → ℕ → ℕ
significand w length n =
    if nat_le length (suc (fraction_bits w)) then n * 2 ^ (suc (fraction_bits w) - length) else rounded (length - suc (fraction_bits w)) n

-- the nearest float (convert_u)
abbrev pub convert_u : Width → ℕ → ℕ
convert_u w n = if n == 0 then 0 else (bias w + bit_length n - 2) * 2 ^ fraction_bits w + significand w (bit_length n) n

-- of a number with sign (convert_s)
abbrev pub convert_s : Width → Width → ℕ → ℕ
convert_s from to n = if nat_lt n (sign_bit from) then convert_u to n else sign_bit to + convert_u to (2 ^ bits from - n)

-- ---- lanes of another width

-- an operator on each lane, whose value is a lane of another width
unfoldable pub each_resized : (from to : ℕ) → (ℕ → ℕ) → (count : ℕ) → ℕ → ℕ
each_resized from to f zero n = 0
each_resized from to f (suc count) n = each_resized from to f count (n / 2 ^ from) * 2 ^ to + f (n % 2 ^ from) % 2 ^ to

-- so of two vectors, the lanes of the second one above those of the first
abbrev pub narrowed : (from to : ℕ) → (ℕ → ℕ) → (count : ℕ) → ℕ → ℕ → ℕ
narrowed from to f count n m = each_resized from to f count m * 2 ^ (to * count) + each_resized from to f count n
