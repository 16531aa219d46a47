-- Lines on vectors are right where both sides have the same number in each lane; those on bits, where they have the same bits.
use Rattle.std.proofs.Common.{◌≡◌, ℕ, zero, suc, ◌*◌, ◌%◌, ◌^◌, ◌<◌, Bool, true, List, [], ◌∷◌, refl, sym, ap, ap₂, ◌∙◌, arith}
use Rattle.std.specs.Prelude.{◌==◌, ◌&&◌, bit_and, bit_or, bit_xor}
use Rattle.std.proofs.lemmas.Bool.{and_parts, eqb-true}
use Rattle.std.proofs.lemmas.Nat.{pow_pos}
use Rattle.std.proofs.Math.Nat.{mod-lt}
use Rattle.wasm_types.specs.declared.types.PrimitiveTypeInfo.TheVariants.{V128}
use Rattle.wasm_execution.specs.Lanes.{splat}
use Rattle.wasm_execution.specs.ExactRow.{words_wide}
use Rattle.rewrite_rules.specs.Numbers.{first_word}
use Rattle.rewrite_rules.specs.Pattern.{Kind, fixed, hole_kind_of}
use Rattle.rewrite_rules.specs.Line.{IsOfKind}
use Rattle.rewrite_rules.proofs.identities.WidthLemmas.{ok}
use Rattle.rewrite_rules.proofs.identities.LaneNumbers.{Place, first, second, third, Laned, given, all, each, pair, both, either, differ}
use Rattle.rewrite_rules.proofs.identities.LaneNumbers.{cut, lane, number, SameLanes, same_numbers}

-- ---- lines

abbrev pub vectors : List Kind
vectors = fixed V128 ∷ fixed V128 ∷ fixed V128 ∷ []

-- the numbers of the first three holes
abbrev pub of_holes : (ℕ → ℕ) → Place → ℕ
of_holes h first = h 0
of_holes h second = h 1
of_holes h third = h 2

abbrev pub AreVectors : (ℕ → ℕ) → Type 0
AreVectors h = (n : ℕ) → IsOfKind (hole_kind_of vectors n) (h n)

holes_fit : (h : ℕ → ℕ) → AreVectors h → (i : Place) → of_holes h i < 2 ^ 128
holes_fit h a first = a 0
holes_fit h a second = a 1
holes_fit h a third = a 2

-- A line of vectors whose sides have these values, and whose constants may be any, is right.
abbrev pub Right : (bits count : ℕ) → Laned → Laned → Type 0
Right b c p q =
    (h k : ℕ → ℕ) (us vs : List ℕ) → AreVectors h → true ≡ true → ok (number b c (of_holes h) p) ≡ ok (number b c (of_holes h) q)

pub by_lanes : (b c : ℕ) → b * c ≡ 128 → (p q : Laned) → SameLanes b p q → Right b c p q
by_lanes b c whole p q same h k us vs a e = ap ok (same_numbers b c whole (of_holes h) (holes_fit h a) p q same)

-- ---- bits, as lanes of one

-- operands
abbrev pub x : Laned
x = given first

abbrev pub y : Laned
y = given second

abbrev pub z : Laned
z = given third

-- no bits, and all
abbrev pub zeros : Laned
zeros = all 0

abbrev pub ones : Laned
ones = all 1

abbrev pub no : Laned → Laned
no p = cut (differ ones p)

abbrev pub and : Laned → Laned → Laned
and p q = cut (both p q)

abbrev pub or : Laned → Laned → Laned
or p q = cut (either p q)

abbrev pub xor : Laned → Laned → Laned
xor p q = cut (differ p q)

-- the bits of the first that the second one hasn't
abbrev pub without : Laned → Laned → Laned
without p q = cut (both p (differ ones q))

-- those of the first where the third one has some, and of the second elsewhere
abbrev pub chosen : Laned → Laned → Laned → Laned
chosen p q r = cut (either (both p r) (both q (differ ones r)))

-- ---- tables of bits

abbrev on_both : (ℕ → Bool) → Bool
on_both f = f 0 && f 1

on_both_at : (f : ℕ → Bool) → on_both f ≡ true → (n : ℕ) → n < 2 → f n ≡ true
on_both_at f e zero l = (and_parts (f 0) (f 1) e).0
on_both_at f e (suc zero) l = (and_parts (f 0) (f 1) e).1
on_both_at f e (suc (suc n)) l = absurd (omega arith)

-- three bits
abbrev bits_at : ℕ → ℕ → ℕ → Place → ℕ
bits_at n m k first = n
bits_at n m k second = m
bits_at n m k third = k

-- both have the same value on all bits
abbrev pub agree : Laned → Laned → Bool
agree p q = on_both (λ n. on_both (λ m. on_both (λ k. lane 1 (bits_at n m k) p == lane 1 (bits_at n m k) q)))

given_bits : (v : Place → ℕ) (i : Place) → v i ≡ bits_at (v first) (v second) (v third) i
given_bits v first = refl
given_bits v second = refl
given_bits v third = refl

by_bits : (v : Place → ℕ) (p : Laned) → lane 1 v p ≡ lane 1 (bits_at (v first) (v second) (v third)) p
by_bits v (given i) = given_bits v i
by_bits v (all n) = refl
by_bits v (each f p) = ap (λ n. f n % 2 ^ 1) (by_bits v p)
by_bits v (pair f p q) = ap₂ (λ n m. f n m % 2 ^ 1) (by_bits v p) (by_bits v q)
by_bits v (both p q) = ap₂ bit_and (by_bits v p) (by_bits v q)
by_bits v (either p q) = ap₂ bit_or (by_bits v p) (by_bits v q)
by_bits v (differ p q) = ap₂ bit_xor (by_bits v p) (by_bits v q)
by_bits v (cut p) = by_bits v p

agree_at : (p q : Laned) → agree p q ≡ true → SameLanes 1 p q
agree_at p q e v l =
    let n = v first in
    let m = v second in
    let k = v third in
    let same = λ (n m k : ℕ). lane 1 (bits_at n m k) p == lane 1 (bits_at n m k) q in
    let f = on_both_at (λ n. on_both (λ m. on_both (λ k. same n m k))) e n (l first) in
    let g = on_both_at (λ m. on_both (λ k. same n m k)) f m (l second) in
    by_bits v p ∙ (eqb-true (lane 1 (bits_at n m k) p) (lane 1 (bits_at n m k) q) (on_both_at (λ k. same n m k) g k (l third)) ∙ sym (by_bits v q))

-- sides that agree are a right line
pub same : (p q : Laned) → agree p q ≡ true → Right 1 128 p q
same p q e = by_lanes 1 128 refl p q (agree_at p q e)

-- ---- a drawn vector on the right side

-- the vector of a drawn number in each lane of 32 bits
abbrev drawn_vector : List ℕ → ℕ
drawn_vector ws = splat words_wide (first_word ws % 2 ^ 32) % 2 ^ 128

-- it stands in the place of the third hole
abbrev with_drawn : (ℕ → ℕ) → List ℕ → Place → ℕ
with_drawn h ws first = h 0
with_drawn h ws second = h 1
with_drawn h ws third = drawn_vector ws

drawn_fits : (h : ℕ → ℕ) (ws : List ℕ) → AreVectors h → (i : Place) → with_drawn h ws i < 2 ^ 128
drawn_fits h ws a first = a 0
drawn_fits h ws a second = a 1
drawn_fits h ws a third = mod-lt (splat words_wide (first_word ws % 2 ^ 32)) (pow_pos 128)

pub same_drawn : (p q : Laned) → agree p q ≡ true → (h k : ℕ → ℕ) (us vs : List ℕ) → AreVectors h → true ≡ true →
    ok (number 1 128 (with_drawn h vs) p) ≡ ok (number 1 128 (with_drawn h vs) q)
same_drawn p q e h k us vs a f = ap ok (same_numbers 1 128 refl (with_drawn h vs) (drawn_fits h vs a) p q (agree_at p q e))
