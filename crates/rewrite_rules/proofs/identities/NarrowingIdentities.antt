-- Lanes that are narrowed, by those that are brought nearer to what the narrower ones hold.
use Rattle.std.proofs.Common.{◌≡◌, ℕ, zero, suc, ◌+◌, ◌-◌, ◌*◌, ◌/◌, ◌%◌, ◌^◌, ◌<◌, Bool, true, false, List, refl, sym, ap, ap₂, ◌∙◌, subst, arith}
use Rattle.std.specs.Prelude.{ℤ, pos, negsuc, int_lt, if◌then◌else◌, min}
use Rattle.std.specs.Int.{Width, w8, w16, cast_signed, cast_unsigned, saturate_to_bits, saturate_unsigned}
use Rattle.std.proofs.lemmas.Bool.{ltb-true, ltb-false, true≢false}
use Rattle.std.proofs.lemmas.Nat.{pow_pos, div-mul-add, mod-mul-add}
use Rattle.std.proofs.Math.Nat.{mod-eq_of_lt, mod-lt, zero-mod, min-eq_right}
use mir.Val.{bits, hbits}
use Rattle.wasm_code.specs.Table.{table, row_at}
use Rattle.wasm_execution.specs.Conversions.{to_signed, to_unsigned, each_resized, narrowed}
use Rattle.wasm_execution.specs.ExactRow.{exact_row, signed_lt}
use Rattle.wasm_execution.specs.IntegerRow.{integer_row}
use Rattle.wasm_execution.specs.Lanes.{each_lane, each_pair, on_pairs, splat}
use Rattle.rewrite_rules.specs.declared.table.lane_moves.TheConstants.{NARROWED_LANES}
use Rattle.rewrite_rules.specs.Exact.{exact_operator}
use Rattle.rewrite_rules.specs.Line.{IsRight}
use Rattle.rewrite_rules.specs.Table.{rows_of}
use Rattle.rewrite_rules.proofs.identities.LaneIdentities.{Whole, bound, halves, words}
use Rattle.rewrite_rules.proofs.identities.LaneMoveIdentities.{splat_kept}
use Rattle.rewrite_rules.proofs.identities.LaneNumbers.{pairs_fit}
use Rattle.rewrite_rules.proofs.identities.RowLemmas.{AtRows, ◌▸◌}
use Rattle.rewrite_rules.proofs.identities.VectorIdentities.{AreVectors}
use Rattle.rewrite_rules.proofs.identities.WidthLemmas.{ok}

-- ---- numbers

-- the greatest number with sign, and more
saturated_above : (h : ℕ) (z : ℤ) → int_lt z (pos (2 ^ h - 1)) ≡ false → saturate_to_bits h (pos (2 ^ h - 1)) ≡ saturate_to_bits h z
saturated_above h (pos n) e =
    let l = ltb-false n (2 ^ h - 1) e in
    ap pos (min-eq_right (omega arith) ∙ sym (min-eq_right l))
saturated_above h (negsuc n) e = absurd (true≢false e)

-- nothing, and less
saturated_below : (w : Width) (z : ℤ) → int_lt z (pos 0) ≡ true → saturate_unsigned w (pos 0) ≡ saturate_unsigned w z
saturated_below w (pos n) e = let l = ltb-true n 0 e in absurd (omega arith)
saturated_below w (negsuc n) e = let none : 0 ≡ 0 - suc n = omega arith in ap (λ m. min m (2 ^ bits w - 1)) none

abbrev least : Whole → ℕ → ℕ → ℕ
least w n m = if signed_lt w.shape n m then n else m

abbrev greatest : Whole → ℕ → ℕ → ℕ
greatest w n m = if signed_lt w.shape n m then m else n

-- a lane as a narrower one, with its sign or without
abbrev to_narrow_s : Whole → Width → ℕ → ℕ
to_narrow_s w v n = to_signed v (cast_signed w.shape.width n)

abbrev to_narrow_u : Whole → Width → ℕ → ℕ
to_narrow_u w v n = to_unsigned v (cast_signed w.shape.width n)

-- what is above the greatest number of the narrower lane may be that number
kept_above : (w : Whole) (v : Width) (k n : ℕ) → k % bound w ≡ k → cast_signed w.shape.width k ≡ pos (2 ^ hbits v - 1) → n < bound w →
    to_narrow_s w v (least w n (k % bound w) % bound w) ≡ to_narrow_s w v n
kept_above w v k n small top l =
    ap (λ m. to_narrow_s w v (least w n m % bound w)) small ∙ go (signed_lt w.shape n k) refl
  where
    go : (b : Bool) → signed_lt w.shape n k ≡ b → to_narrow_s w v ((if b then n else k) % bound w) ≡ to_narrow_s w v n
    go true e = ap (to_narrow_s w v) (mod-eq_of_lt l)
    go false e =
        let z : ℤ = cast_signed w.shape.width n in
        ap (to_narrow_s w v) small
        ∙ (ap (to_signed v) top ∙ ap (cast_unsigned v) (saturated_above (hbits v) z (ap (int_lt z) (sym top) ∙ e)))

-- what is below 0 may be 0
kept_below : (w : Whole) (v : Width) (n : ℕ) → cast_signed w.shape.width 0 ≡ pos 0 → n < bound w →
    to_narrow_u w v (greatest w n (0 % bound w) % bound w) ≡ to_narrow_u w v n
kept_below w v n zeros l =
    ap (λ m. to_narrow_u w v (greatest w n m % bound w)) (zero-mod (bound w)) ∙ go (signed_lt w.shape n 0) refl
  where
    go : (b : Bool) → signed_lt w.shape n 0 ≡ b → to_narrow_u w v ((if b then 0 else n) % bound w) ≡ to_narrow_u w v n
    go false e = ap (to_narrow_u w v) (mod-eq_of_lt l)
    go true e =
        let z : ℤ = cast_signed w.shape.width n in
        ap (to_narrow_u w v) (zero-mod (bound w))
        ∙ (ap (to_unsigned v) zeros ∙ saturated_below v z (ap (int_lt z) (sym zeros) ∙ e))

-- ---- vectors

-- what is the same where a lane is paired with the number in each lane
same_narrowed : (from to : ℕ) (f : ℕ → ℕ) (g : ℕ → ℕ → ℕ) (k : ℕ) → ((n : ℕ) → n < 2 ^ from → f (g n (k % 2 ^ from) % 2 ^ from) ≡ f n) →
    (count n m : ℕ) → each_resized from to f count (each_pair from g count n (each_lane from (λ j. k) count m)) ≡ each_resized from to f count n
unfolding each_resized each_pair each_lane
same_narrowed from to f g k same zero n m = refl
same_narrowed from to f g k same (suc count) n m =
    let b = 2 ^ from in
    let rest = each_lane from (λ j. k) count (m / b) in
    let paired = each_pair from g count (n / b) rest in
    let r = g (n % b) (k % b) % b in
    let inside = mod-lt k (pow_pos from) in
    let within = mod-lt (g (n % b) (k % b)) (pow_pos from) in
    ap₂ (λ x y. each_resized from to f (suc count) (each_pair from g count (n / b) x * b + g (n % b) y % b))
    (div-mul-add rest b (k % b) inside) (mod-mul-add rest b (k % b) inside)
    ∙ (ap₂ (λ x y. each_resized from to f count x * 2 ^ to + f y % 2 ^ to) (div-mul-add paired b r within) (mod-mul-add paired b r within)
    ∙ ap₂ (λ x y. x * 2 ^ to + y % 2 ^ to) (same_narrowed from to f g k same count (n / b) (m / b)) (same (n % b) (mod-lt n (pow_pos from))))

-- the vector whose lanes are paired with the number
abbrev paired : Whole → (ℕ → ℕ → ℕ) → ℕ → ℕ → ℕ
paired w g k n = on_pairs w.shape g n (splat w.shape k % 2 ^ 128) % 2 ^ 128

same_vectors : (w : Whole) (to : ℕ) (f : ℕ → ℕ) (g : ℕ → ℕ → ℕ) (k : ℕ) → ((n : ℕ) → n < bound w → f (g n (k % bound w) % bound w) ≡ f n) →
    (n : ℕ) → each_resized (bits w.shape.width) to f w.shape.count (paired w g k n) ≡ each_resized (bits w.shape.width) to f w.shape.count n
same_vectors w to f g k same n =
    let from = bits w.shape.width in
    let count = w.shape.count in
    let pairs = on_pairs w.shape g n (splat w.shape k) in
    let fits : pairs < 2 ^ 128 = subst (λ j. pairs < 2 ^ j) w.fills (pairs_fit from g count n (splat w.shape k)) in
    ap (λ m. each_resized from to f count (on_pairs w.shape g n m % 2 ^ 128)) (splat_kept w k)
    ∙ (ap (each_resized from to f count) (mod-eq_of_lt fits) ∙ same_narrowed from to f g k same count n 0)

-- ---- lines

-- lanes that are narrowed, and what they may be paired with before
record Narrowing : Type 0 where
  whole : Whole
  to : ℕ
  value : ℕ → ℕ
  pairs : ℕ → ℕ → ℕ
  number : ℕ
  same : (n : ℕ) → n < bound whole → value (pairs n (number % bound whole) % bound whole) ≡ value n

abbrev signed_bytes : Narrowing
signed_bytes = record {
  whole = halves;
  to = 8;
  value = to_narrow_s halves w8;
  pairs = least halves;
  number = 127;
  same = λ n l. kept_above halves w8 127 n refl refl l;
}

abbrev signed_halves : Narrowing
signed_halves = record {
  whole = words;
  to = 16;
  value = to_narrow_s words w16;
  pairs = least words;
  number = 32767;
  same = λ n l. kept_above words w16 32767 n refl refl l;
}

abbrev unsigned_bytes : Narrowing
unsigned_bytes = record {
  whole = halves;
  to = 8;
  value = to_narrow_u halves w8;
  pairs = greatest halves;
  number = 0;
  same = λ n l. kept_below halves w8 n refl l;
}

abbrev unsigned_halves : Narrowing
unsigned_halves = record {
  whole = words;
  to = 16;
  value = to_narrow_u words w16;
  pairs = greatest words;
  number = 0;
  same = λ n l. kept_below words w16 n refl l;
}

-- two vectors that are narrowed, of which the first one may be paired
abbrev first_narrowed : Narrowing → ℕ → ℕ → ℕ
first_narrowed d n m = narrowed (bits d.whole.shape.width) d.to d.value d.whole.shape.count n m % 2 ^ 128

abbrev lane_paired : Narrowing → ℕ → ℕ
lane_paired d n = paired d.whole d.pairs d.number n

first_same : (d : Narrowing) (n m : ℕ) → first_narrowed d n m ≡ first_narrowed d (lane_paired d n) m
first_same d n m =
    sym (ap (λ k. (each_resized (bits d.whole.shape.width) d.to d.value d.whole.shape.count m * 2 ^ (d.to * d.whole.shape.count) + k) % 2 ^ 128)
    (same_vectors d.whole d.to d.value d.pairs d.number d.same n))

bounded : (d : Narrowing) (h k : ℕ → ℕ) (us vs : List ℕ) → AreVectors h → true ≡ true →
    ok (first_narrowed d (h 0) (h 1)) ≡ ok (first_narrowed d (lane_paired d (h 0)) (h 1))
bounded d h k us vs a e = ap ok (first_same d (h 0) (h 1))

unbounded : (d : Narrowing) (h k : ℕ → ℕ) (us vs : List ℕ) → AreVectors h → true ≡ true →
    ok (first_narrowed d (lane_paired d (h 0)) (h 1)) ≡ ok (first_narrowed d (h 0) (h 1))
unbounded d h k us vs a e = sym (ap ok (first_same d (h 0) (h 1)))

pub narrowed_right : AtRows IsRight (rows_of NARROWED_LANES)
unfolding exact_operator exact_row integer_row row_at table each_lane
narrowed_right =
    bounded signed_bytes ▸ bounded signed_halves ▸ bounded unsigned_bytes ▸ bounded unsigned_halves
    ▸ unbounded signed_bytes ▸ unbounded signed_halves ▸ unbounded unsigned_bytes ▸ unbounded unsigned_halves
    ▸ tt
