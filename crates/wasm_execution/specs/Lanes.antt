-- Floats and vectors as their bits: the sign of a float, comparisons of floats, and operators on the lanes of a vector
-- (WebAssembly Core Specification 3.0, Execution, Numerics, Floating-Point Operations and Vector Operations).
use Rattle.std.specs.Prelude.{ℕ, zero, suc, ◌+◌, ◌-◌, ◌*◌, ◌/◌, ◌%◌, ◌^◌, ℤ, pos, neg_ℤ, int_lt, int_le, Bool, ◌==◌, ◌&&◌, nat_lt, nat_le}
use Rattle.std.specs.Prelude.{if◌then◌else◌, List, [], ◌∷◌, bit_and, bit_or, bit_xor}
use Rattle.std.specs.Int.{Width}
use mir.Val.{bits}

-- ---- floats, as numbers of their width

-- the sign alone; all bits but the sign
abbrev pub sign_bit : Width → ℕ
sign_bit w = 2 ^ (bits w - 1)

-- the bits of a float's magnitude
abbrev pub magnitude : Width → ℕ → ℕ
magnitude w n = bit_and n (sign_bit w - 1)

-- the other sign (fneg)
abbrev pub negated : Width → ℕ → ℕ
negated w n = bit_xor n (sign_bit w)

-- the first one's magnitude with the second one's sign (fcopysign)
abbrev pub with_sign : Width → ℕ → ℕ → ℕ
with_sign w n m = bit_or (magnitude w n) (bit_and m (sign_bit w))

-- the bits of the infinity without sign, of a float of 32 or 64 bits; above them are the NaNs
abbrev pub infinity : Width → ℕ
infinity w = if bits w == 32 then 0x7f800000 else 0x7ff0000000000000

-- neither is a NaN
abbrev pub ordered : Width → ℕ → ℕ → Bool
ordered w n m = nat_le (magnitude w n) (infinity w) && nat_le (magnitude w m) (infinity w)

-- floats that are no NaNs are ordered as these; both zeros are 0
abbrev pub rank : Width → ℕ → ℤ
rank w n = if nat_lt n (sign_bit w) then pos (magnitude w n) else neg_ℤ (pos (magnitude w n))

-- less than the other; of a NaN nothing is
abbrev pub float_lt : Width → ℕ → ℕ → Bool
float_lt w n m = ordered w n m && int_lt (rank w n) (rank w m)

-- at most the other
abbrev pub float_le : Width → ℕ → ℕ → Bool
float_le w n m = ordered w n m && int_le (rank w n) (rank w m)

-- equal: at most each other
abbrev pub float_eq : Width → ℕ → ℕ → Bool
float_eq w n m = float_le w n m && float_le w m n

-- ---- vectors, the lowest lane in the lowest bits

-- lanes of that width, and so many of them
pub record Shape : Type 0 where
  pub width : Width
  pub count : ℕ

-- an operator on each lane by itself; of what it gives, the bits of a lane are kept
unfoldable pub each_lane : (bits : ℕ) → (ℕ → ℕ) → (count : ℕ) → ℕ → ℕ
each_lane bits f zero n = 0
each_lane bits f (suc count) n = each_lane bits f count (n / 2 ^ bits) * 2 ^ bits + f (n % 2 ^ bits) % 2 ^ bits

-- the same on two vectors, lane by lane
unfoldable pub each_pair : (bits : ℕ) → (ℕ → ℕ → ℕ) → (count : ℕ) → ℕ → ℕ → ℕ
each_pair bits f zero n m = 0
each_pair bits f (suc count) n m =
    each_pair bits f count (n / 2 ^ bits) (m / 2 ^ bits) * 2 ^ bits + f (n % 2 ^ bits) (m % 2 ^ bits) % 2 ^ bits

-- the operators on lanes of a shape
abbrev pub on_lanes : Shape → (ℕ → ℕ) → ℕ → ℕ
on_lanes s f n = each_lane (bits s.width) f s.count n

abbrev pub on_pairs : Shape → (ℕ → ℕ → ℕ) → ℕ → ℕ → ℕ
on_pairs s f n m = each_pair (bits s.width) f s.count n m

-- the number in each lane
abbrev pub splat : Shape → ℕ → ℕ
splat s n = each_lane (bits s.width) (λ k. n) s.count 0

-- the number in the lane, from the lowest on
abbrev pub lane_at : Shape → (lane : ℕ) → ℕ → ℕ
lane_at s lane n = n / 2 ^ (bits s.width * lane) % 2 ^ bits s.width

-- the vector with another number in the lane
abbrev pub with_lane : Shape → (lane : ℕ) → ℕ → ℕ → ℕ
with_lane s lane n m =
    n / 2 ^ (bits s.width * (lane + 1)) * 2 ^ (bits s.width * (lane + 1))
    + (m % 2 ^ bits s.width * 2 ^ (bits s.width * lane) + n % 2 ^ (bits s.width * lane))

-- the numbers of a shuffle pick bytes of two vectors, those of the second from 16 on
unfoldable pub shuffled : List ℕ → ℕ → ℕ → ℕ
shuffled [] n m = 0
shuffled (k ∷ ks) n m =
    shuffled ks n m * 256 + (if nat_lt k 16 then n / 256 ^ k % 256 else m / 256 ^ (k - 16) % 256)

-- each byte of the second vector picks a byte of the first one, and 0 where it is beyond them (i8x16.swizzle)
abbrev pub swizzled : ℕ → ℕ → ℕ
swizzled n m = each_lane 8 (λ k. if nat_lt k 16 then n / 256 ^ k % 256 else 0) 16 m

-- all bits of a lane, or none
abbrev pub mask : Width → Bool → ℕ
mask w b = if b then 2 ^ bits w - 1 else 0
