-- Numbers as bytes, seven bits in each, the lowest first: LEB128 (WebAssembly Core Specification 3.0, Binary Format, Values, Integers).
use Rattle.std.specs.Prelude.{◌≡◌, ◌⊎◌, ℕ, ℤ, pos, neg_ℤ, ◌+◌, ◌-◌, ◌*◌, ◌%◌, ◌/◌, ◌^◌, ◌<◌, ◌≤◌, ◌-ℤ◌, ◌≤ℤ◌, ◌<ℤ◌, nat_le, slice_index}
use Rattle.std.specs.Prelude.{List, [], ◌∷◌, ◌++◌, length, if◌then◌else◌, Bool}
use Rattle.wasm_code.specs.declared.fault.Cause.{Cause}
use Rattle.wasm_code.specs.declared.fault.Cause.TheVariants.{Truncated, UnknownOpcode, BadInteger, BadImmediate}

-- ---- what bytes spell

-- each byte but the last is 128 or more, and the last is below 128
abbrev pub IsGroup : List ℕ → Type 0
IsGroup [] = ⊥
IsGroup (b ∷ []) = b < 128
IsGroup (b ∷ c ∷ bytes) = (128 ≤ b) × IsGroup (c ∷ bytes)

-- the sum of (byte modulo 128) times 128 to the byte's place
abbrev pub value : List ℕ → ℕ
value [] = 0
value (b ∷ bytes) = b % 128 + 128 * value bytes

-- bit 6 of the last byte
abbrev pub is_negative : List ℕ → Bool
is_negative bytes = nat_le 64 (slice_index bytes (length bytes - 1))

-- the same sum, less 128 to the number of bytes where bit 6 of the last byte is set
abbrev pub signed_value : List ℕ → ℤ
signed_value bytes = if is_negative bytes then pos (value bytes) -ℤ pos (128 ^ length bytes) else pos (value bytes)

-- a number of so many bits has at most so many bytes
abbrev pub most_bytes : ℕ → ℕ
most_bytes bits = (bits + 6) / 7

-- The bytes spell an unsigned number of so many bits.
pub record SpellsUnsigned (bits : ℕ) (bytes : List ℕ) (n : ℕ) : Type 0 where
  pub group : IsGroup bytes
  pub short : length bytes ≤ most_bytes bits
  pub is : value bytes ≡ n
  pub fits : n < 2 ^ bits

-- The bytes spell a signed number of so many bits.
pub record SpellsSigned (bits : ℕ) (bytes : List ℕ) (z : ℤ) : Type 0 where
  pub group : IsGroup bytes
  pub short : length bytes ≤ most_bytes bits
  pub is : signed_value bytes ≡ z
  pub low : neg_ℤ (pos (2 ^ (bits - 1))) ≤ℤ z
  pub high : z <ℤ pos (2 ^ (bits - 1))

-- ---- why no number begins the bytes

-- all are 128 or more
abbrev pub AreHigh : List ℕ → Type 0
AreHigh [] = Unit {0}
AreHigh (b ∷ bytes) = (128 ≤ b) × AreHigh bytes

-- they end where the number goes on, before its last possible byte
pub record EndsInside (most : ℕ) (bytes : List ℕ) : Type 0 where
  pub high : AreHigh bytes
  pub short : length bytes < most

-- the last possible byte is 128 or more too
pub record GoesOn (most : ℕ) (bytes : List ℕ) : Type 0 where
  pub front : List ℕ
  pub back : List ℕ
  pub parts : bytes ≡ front ++ back
  pub high : AreHigh front
  pub long : length front ≡ most

-- a whole group begins them, whose number is out of range
pub record IsOut (Out : List ℕ → Type 0) (most : ℕ) (bytes : List ℕ) : Type 0 where
  pub group : List ℕ
  pub rest : List ℕ
  pub parts : bytes ≡ group ++ rest
  pub is_group : IsGroup group
  pub short : length group ≤ most
  pub out : Out group

-- no number begins the bytes: they end inside it, or it is too long or, as `Out` says of its group, out of range
abbrev pub FailsNumber : (List ℕ → Type 0) → ℕ → List ℕ → Cause → Type 0
FailsNumber Out most bytes Truncated = EndsInside most bytes
FailsNumber Out most bytes BadInteger = GoesOn most bytes ⊎ IsOut Out most bytes
FailsNumber Out most bytes UnknownOpcode = ⊥
FailsNumber Out most bytes BadImmediate = ⊥

-- a group's number is 2 ^ bits or more
abbrev pub IsAbove : ℕ → List ℕ → Type 0
IsAbove bits group = 2 ^ bits ≤ value group

-- a group's number is below -half, or half or more
abbrev pub IsOutside : ℕ → List ℕ → Type 0
IsOutside half group = (signed_value group <ℤ neg_ℤ (pos half)) ⊎ (pos half ≤ℤ signed_value group)

-- No unsigned number of so many bits begins the bytes.
abbrev pub FailsUnsigned : ℕ → List ℕ → Cause → Type 0
FailsUnsigned bits = FailsNumber (IsAbove bits) (most_bytes bits)

-- No signed number of so many bits begins the bytes.
abbrev pub FailsSigned : ℕ → List ℕ → Cause → Type 0
FailsSigned bits = FailsNumber (IsOutside (2 ^ (bits - 1))) (most_bytes bits)
