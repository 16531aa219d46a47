-- The loops that find a group of bytes and its value.
use Rattle.std.proofs.Common.{to_z, of_z, w64, pos, negsuc, ◌-ℤ◌, leb, ◌≡◌, ℕ, zero, suc, ◌+◌, ◌-◌, ◌*◌, ◌%◌, ◌^◌, ◌<◌, ◌≤◌, true, false}
use Rattle.std.proofs.Common.{ltb, List, [], ◌∷◌, ◌++◌, length, get_or, take, drop, Result, Ok, Err, refl, sym, ap, ◌∙◌, append_assoc}
use Rattle.std.proofs.Common.{arith}
use Rattle.std.proofs.lemmas.Bool.{le-ltb, lt-ltb, le-leb, lt-leb}
use Rattle.std.proofs.lemmas.List.{drop_more, take_more, drop_all, take_all}
use Rattle.std.proofs.lemmas.Grind.{pow_more}
use Rattle.std.proofs.Math.Nat.{pow-le-pow_right, pow-suc}
use Rattle.wasm_code.specs.declared.fault.Cause.{Cause}
use Rattle.wasm_code.specs.declared.fault.Cause.TheVariants.{Truncated, BadInteger}
use Rattle.wasm_code.specs.Number.{value}
use Rattle.wasm_code.specs.Reader.{◌>>=◌, group_at, below_at, within_at}
use Rattle.std.proofs.lemmas.Int.{ints}

-- a group of which the front has been read
abbrev pub with_front : List ℕ → Result (List ℕ × List ℕ) Cause → Result (List ℕ × List ℕ) Cause
with_front front read = read >>= λ g. Ok (front ++ g.0, g.1)

regroup : (front : List ℕ) (b : ℕ) (r : Result (List ℕ × List ℕ) Cause) → with_front front (r >>= λ g. Ok (b ∷ g.0, g.1))
    ≡ with_front (front ++ b ∷ []) r
regroup front b (Ok x) = ap (λ (l : List ℕ). Ok (l, x.1)) (simp append_assoc)
regroup front b (Err f) = refl

abbrev pub At : ℕ → List ℕ → ℕ → Result (List ℕ × List ℕ) Cause
At most bytes i = with_front (take i bytes) (group_at (most - i) (drop i bytes))

pub begins : (most : ℕ) (bytes : List ℕ) → At most bytes 0 ≡ group_at most bytes
begins most bytes = let k : most - 0 ≡ most = omega arith in
    rw k (elim (group_at most bytes) as (λ r. with_front [] r ≡ r) [ Ok x ↦ refl | Err e ↦ refl ])

pub goes_on : (most : ℕ) (bytes : List ℕ) (i : ℕ) → i < most → i < length bytes → 128 ≤ get_or bytes i 0 → At most bytes i ≡ At most bytes (i + 1)
unfolding group_at
goes_on most bytes i lt in_range high =
    let k : most - i ≡ suc (most - (i + 1)) = omega arith in
    let test : ltb (get_or bytes i 0) 128 ≡ false = le-ltb _ _ high in
    rw (k, drop_more bytes i 0 in_range, test, take_more bytes i 0 in_range) (regroup (take i bytes) (get_or bytes i 0)
    (group_at (most - (i + 1)) (drop (i + 1) bytes)))

pub found : (most : ℕ) (bytes : List ℕ) (i : ℕ) → i < most → i < length bytes → get_or bytes i 0 < 128 →
    At most bytes i ≡ Ok (take (i + 1) bytes, drop (i + 1) bytes)
unfolding group_at
found most bytes i lt in_range low =
    let k : most - i ≡ suc (most - (i + 1)) = omega arith in
    let test : ltb (get_or bytes i 0) 128 ≡ true = lt-ltb _ _ low in
    rw (k, drop_more bytes i 0 in_range, test, take_more bytes i 0 in_range) refl

pub ended : (most : ℕ) (bytes : List ℕ) (i : ℕ) → i < most → length bytes ≤ i → At most bytes i ≡ Err Truncated
unfolding group_at
ended most bytes i lt past =
    let k : most - i ≡ suc (most - (i + 1)) = omega arith in
    rw (k, drop_all i bytes past) refl

pub full : (most : ℕ) (bytes : List ℕ) (i : ℕ) → most ≤ i → At most bytes i ≡ Err BadInteger
unfolding group_at
full most bytes i past = let k : most - i ≡ 0 = omega arith in rw k refl

-- ---- the value of a group

pub value_below : (bytes : List ℕ) → value bytes < 128 ^ length bytes
value_below [] = omega arith
value_below (b ∷ bytes) = omega (arith, value_below bytes, pow-suc 128 (length bytes))

pub value_step : (bytes : List ℕ) (i sum scale total : ℕ) → i < length bytes → sum + scale * value (drop i bytes) ≡ total
    → sum + get_or bytes i 0 % 128 * scale + scale * 128 * value (drop (i + 1) bytes) ≡ total
value_step bytes i sum scale total lt h = let e = rw (drop_more bytes i 0 lt) at h in omega (arith, e)

-- what is added next fits
pub value_fits : (bytes : List ℕ) (i sum scale : ℕ) → length bytes ≤ 10 → i < length bytes → sum + scale * value (drop i bytes) ≡ value bytes
    → sum + get_or bytes i 0 % 128 * scale < 2 ^ 70
value_fits bytes i sum scale short lt h = omega (
  arith,
  value_step bytes i sum scale (value bytes) lt h,
  value_below bytes,
  pow-le-pow_right {n = 128} (omega arith) short,
)

pub scale_fits : (i n scale : ℕ) → n ≤ 10 → i < n → scale ≡ 128 ^ i → scale * 128 ≤ 128 ^ 10
scale_fits i n scale short lt e =
    let le : i + 1 ≤ 10 = omega arith in
    omega (arith, pow_more 128 i, pow-le-pow_right {n = 128} (omega arith) le)

pub less_power : (v p : ℕ) → v < p → pos v -ℤ pos p ≡ negsuc (p - 1 - v)
less_power v p lt = omega (arith, ints)

pub negative_at : (half most : ℕ) (bytes group rest : List ℕ) → group_at most bytes ≡ Ok (group, rest) → 64 ≤ get_or group (length group - 1) 0
    → 128 ^ length group - 1 - value group < half → within_at half most bytes ≡ Ok (negsuc (128 ^ length group - 1 - value group), rest)
unfolding within_at
negative_at half most bytes group rest e high lt =
    let n : leb 64 (get_or group (length group - 1) 0) ≡ true = le-leb _ _ high in
    let l : ltb (128 ^ length group - 1 - value group) half ≡ true = lt-ltb _ _ lt in
    rw (e, n, less_power (value group) (128 ^ length group) (value_below group), l) refl

pub done_below : (group : List ℕ) (i sum scale : ℕ) → length group ≤ i → i ≤ length group → sum + scale * value (drop i group) ≡ value group →
    scale ≡ 128 ^ i → sum < scale
done_below group i sum scale past in_range h e =
    let same : i ≡ length group = omega arith in
    rw (e, same) (omega (arith, value_below group, h))

-- what the code computes for a negative number
pub negative_is : (r h j : ℕ) → r ≡ j → j < h → h ≤ 2 ^ 63 → negsuc j ≡ to_z w64 (of_z w64 (negsuc 0 -ℤ to_z w64 r))
negative_is r h j e lt le = omega (arith, ints)

-- ---- a number of one byte

-- the number that the first byte is, and what follows that byte
abbrev pub OneByte : {A : Type 0} → (List ℕ → Result (A × List ℕ) Cause) → List ℕ → A → Type 0
OneByte at bytes x = at bytes ≡ Ok (x, take (length bytes - 1) (drop 1 bytes))

rest_is : (rest : List ℕ) → rest ≡ take (suc (length rest) - 1) rest
rest_is rest = let le : length rest ≤ suc (length rest) - 1 = omega arith in sym (take_all (suc (length rest) - 1) rest le)

short_unsigned : (limit most b : ℕ) (rest : List ℕ) → 1 ≤ most → b < 128 → 128 ≤ limit → below_at limit most (b ∷ rest) ≡ Ok (b, rest)
unfolding below_at group_at
short_unsigned limit zero b rest some low fits = absurd (omega (arith, some))
short_unsigned limit (suc most) b rest some low fits =
    let is : b % 128 + 128 * 0 ≡ b = omega arith in
    let lt : b < limit = omega arith in
    rw (lt-ltb b 128 low, is, lt-ltb b limit lt) refl

pub one_unsigned : (limit most : ℕ) (bytes : List ℕ) → 1 ≤ most → 1 ≤ length bytes → get_or bytes 0 0 < 128 → 128 ≤ limit →
    OneByte (below_at limit most) bytes (get_or bytes 0 0)
one_unsigned limit most [] some has low fits = absurd (omega (arith, has))
one_unsigned limit most (b ∷ rest) some has low fits = short_unsigned limit most b rest some low fits ∙ ap (λ (r : List ℕ). Ok (b, r)) (rest_is rest)

short_positive : (half most b : ℕ) (rest : List ℕ) → 1 ≤ most → b < 64 → 64 ≤ half → within_at half most (b ∷ rest) ≡ Ok (pos b, rest)
unfolding within_at group_at
short_positive half zero b rest some low fits = absurd (omega (arith, some))
short_positive half (suc most) b rest some low fits =
    let is : b % 128 + 128 * 0 ≡ b = omega arith in
    let below : b < 128 = omega arith in
    let lt : b < half = omega arith in
    rw (lt-ltb b 128 below, lt-leb 64 b low, is, lt-ltb b half lt) refl

pub one_positive : (half most : ℕ) (bytes : List ℕ) → 1 ≤ most → 1 ≤ length bytes → get_or bytes 0 0 < 64 → 64 ≤ half →
    OneByte (within_at half most) bytes (pos (get_or bytes 0 0))
one_positive half most [] some has low fits = absurd (omega (arith, has))
one_positive half most (b ∷ rest) some has low fits = short_positive half most b rest some low fits
    ∙ ap (λ (r : List ℕ). Ok (pos b, r)) (rest_is rest)

short_negative : (half most b : ℕ) (rest : List ℕ) → 1 ≤ most → 64 ≤ b → b < 128 → 64 ≤ half →
    within_at half most (b ∷ rest) ≡ Ok (negsuc (127 - b), rest)
unfolding within_at group_at
short_negative half zero b rest some high low fits = absurd (omega (arith, some))
short_negative half (suc most) b rest some high low fits =
    let is : b % 128 + 128 * 0 ≡ b = omega arith in
    let lt : 127 - b < half = omega arith in
    rw (lt-ltb b 128 low, le-leb 64 b high, is, less_power b 128 low, lt-ltb (127 - b) half lt) refl

pub one_negative : (half most : ℕ) (bytes : List ℕ) → 1 ≤ most → 1 ≤ length bytes → 64 ≤ get_or bytes 0 0 → get_or bytes 0 0 < 128 → 64 ≤ half →
    OneByte (within_at half most) bytes (negsuc (127 - get_or bytes 0 0))
one_negative half most [] some has high low fits = absurd (omega (arith, has))
one_negative half most (b ∷ rest) some has high low fits = short_negative half most b rest some high low fits
    ∙ ap (λ (r : List ℕ). Ok (negsuc (127 - b), r)) (rest_is rest)

-- what the code computes for a negative number of one byte
pub byte_less : (b : ℕ) → 64 ≤ b → b < 128 → negsuc (127 - b) ≡ to_z w64 (of_z w64 (to_z w64 b -ℤ pos 128))
byte_less b high low = omega (arith, ints)
