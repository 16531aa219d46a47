-- Numbers: what is read is spelled so, and what is spelled so is read.
use Rattle.std.proofs.Common.{◌≡◌, ℕ, ℤ, pos, negsuc, neg_ℤ, ◌≤ℤ◌, ◌<ℤ◌, zero, suc, ◌-◌, ◌^◌, ◌<◌, ◌≤◌, ◌⊎◌, Bool, true, false, cond, ltb}
use Rattle.std.proofs.Common.{List, [], ◌∷◌, ◌++◌, length, Ok, Err, refl, ap, subst, ◌∙◌, arith, inl, inr}
use Rattle.std.proofs.lemmas.Bool.{le-ltb, lt-ltb, ltb-true, ltb-false, cases_lt}
use Rattle.std.proofs.lemmas.Int.{ints}
use Rattle.wasm_code.specs.declared.fault.Cause.TheVariants.{Truncated, UnknownOpcode, BadInteger, BadImmediate}
use Rattle.wasm_code.specs.declared.fault.Cause.{Cause}
use Rattle.wasm_code.specs.Number.{IsGroup, value, signed_value, most_bytes, SpellsUnsigned, SpellsSigned, AreHigh, EndsInside, GoesOn}
use Rattle.wasm_code.specs.Number.{FailsNumber, IsAbove, IsOutside, FailsUnsigned, FailsSigned}
use Rattle.wasm_code.specs.Reader.{fits_half, group_at, below_at, within_at, unsigned_at, signed_at}
use Rattle.wasm_code.specs.laws.GrammarLemmas.{Exact, bind_ok, bind_err, ok_is, err_is}

more_group : (b : ℕ) (group : List ℕ) → 128 ≤ b → IsGroup group → IsGroup (b ∷ group)
more_group b [] high g = absurd g
more_group b (c ∷ group) high g = (high, g)

pub record IsTaken (most : ℕ) (bytes text rest : List ℕ) : Type 0 where
  pub parts : bytes ≡ text ++ rest
  pub group : IsGroup text
  pub short : length text ≤ most

pub group_takes : (most : ℕ) (bytes : List ℕ) (x : List ℕ × List ℕ) → group_at most bytes ≡ Ok x → IsTaken most bytes x.0 x.1
unfolding group_at
group_takes zero bytes x e = absurd cc
group_takes (suc most) [] x e = absurd cc
group_takes (suc most) (b ∷ bytes) x e =
    elim (cases_lt b 128) [
      | inl lt ↦
          let e' = rw (lt-ltb _ _ lt) at e in
          subst (λ (y : List ℕ × List ℕ). IsTaken (suc most) (b ∷ bytes) y.0 y.1) (ok_is (b ∷ [], bytes) x e') (record {
            parts = refl;
            group = lt;
            short = omega arith;
          })
      | inr le ↦
          let e' = rw (le-ltb _ _ le) at e in
          let a = bind_ok (group_at most bytes) (λ g. Ok (b ∷ g.0, g.1)) x e' in
          let t = group_takes most bytes a.0 a.1 in
          subst (λ (y : List ℕ × List ℕ). IsTaken (suc most) (b ∷ bytes) y.0 y.1) (ok_is (b ∷ a.0.0, a.0.1) x a.2)
          (record { parts = ap (λ (l : List ℕ). b ∷ l) t.parts; group = more_group b a.0.0 le t.group; short = omega (arith, t.short) })
    ]

pub group_again : (most : ℕ) (group rest : List ℕ) → IsGroup group → length group ≤ most → group_at most (group ++ rest) ≡ Ok (group, rest)
unfolding group_at
group_again most [] rest g short = absurd g
group_again zero (b ∷ group) rest g short = absurd (omega (arith, short))
group_again (suc most) (b ∷ []) rest g short = rw (lt-ltb b 128 g) refl
group_again (suc most) (b ∷ c ∷ group) rest g short = rw (le-ltb b 128 g.0, group_again most (c ∷ group) rest g.1 (omega (arith, short))) refl

-- a test that did not fail
test_ok : {A : Type 0} (b : Bool) (d : Cause) (x y : A) → cond b (Ok x) (Err d) ≡ Ok y → (b ≡ true) × (x ≡ y)
test_ok true d x y e = (refl, cc)
test_ok false d x y e = absurd cc

-- a test that failed
refused : {A : Type 0} (b : Bool) (c d : Cause) (x : A) → cond b (Ok x) (Err c) ≡ Err d → (b ≡ false) × (c ≡ d)
refused true c d x e = absurd cc
refused false c d x e = (refl, cc)

-- no group of at most so many bytes begins the bytes
abbrev FailsGroup : ℕ → List ℕ → Cause → Type 0
FailsGroup most bytes Truncated = EndsInside most bytes
FailsGroup most bytes BadInteger = GoesOn most bytes
FailsGroup most bytes UnknownOpcode = ⊥
FailsGroup most bytes BadImmediate = ⊥

one_later : (most b : ℕ) (bytes : List ℕ) (c : Cause) → 128 ≤ b → FailsGroup most bytes c → FailsGroup (suc most) (b ∷ bytes) c
one_later most b bytes Truncated high s = record { high = (high, s.high); short = omega (arith, s.short) }
one_later most b bytes BadInteger high s = record {
  front = b ∷ s.front;
  back = s.back;
  parts = ap (λ (l : List ℕ). b ∷ l) s.parts;
  high = (high, s.high);
  long = omega (arith, s.long);
}
one_later most b bytes UnknownOpcode high s = s
one_later most b bytes BadImmediate high s = s

group_stops : (most : ℕ) (bytes : List ℕ) (c : Cause) → group_at most bytes ≡ Err c → FailsGroup most bytes c
unfolding group_at
group_stops zero bytes c e = subst (FailsGroup zero bytes) (err_is {A = List ℕ × List ℕ} BadInteger c e) (record {
  front = [];
  back = bytes;
  parts = refl;
  high = tt;
  long = refl;
})
group_stops (suc most) [] c e = subst (FailsGroup (suc most) []) (err_is {A = List ℕ × List ℕ} Truncated c e)
    (record { high = tt; short = omega arith })
group_stops (suc most) (b ∷ bytes) c e =
    elim (cases_lt b 128) [
      | inl lt ↦ let e' = rw (lt-ltb _ _ lt) at e in absurd cc
      | inr le ↦
          let e' = rw (le-ltb _ _ le) at e in
          elim (bind_err (group_at most bytes) (λ g. Ok (b ∷ g.0, g.1)) c e') [
            | inl here ↦ one_later most b bytes c le (group_stops most bytes c here)
            | inr there ↦ let e'' = there.2 in absurd cc
          ]
    ]

high_ends : (most : ℕ) (bytes : List ℕ) → AreHigh bytes → length bytes < most → group_at most bytes ≡ Err Truncated
unfolding group_at
high_ends zero bytes high short = absurd (omega (arith, short))
high_ends (suc most) [] high short = refl
high_ends (suc most) (b ∷ bytes) high short = rw (le-ltb b 128 high.0, high_ends most bytes high.1 (omega (arith, short))) refl

high_goes_on : (most : ℕ) (front back : List ℕ) → AreHigh front → length front ≡ most → group_at most (front ++ back) ≡ Err BadInteger
unfolding group_at
high_goes_on zero [] back high long = refl
high_goes_on (suc most) [] back high long = absurd (omega (arith, long))
high_goes_on zero (b ∷ front) back high long = absurd (omega (arith, long))
high_goes_on (suc most) (b ∷ front) back high long = rw (le-ltb b 128 high.0, high_goes_on most front back high.1 (omega (arith, long))) refl

-- a group that fails is a number that fails
number_of : (Out : List ℕ → Type 0) (most : ℕ) (bytes : List ℕ) (c : Cause) → FailsGroup most bytes c → FailsNumber Out most bytes c
number_of Out most bytes Truncated s = s
number_of Out most bytes BadInteger s = inl s
number_of Out most bytes UnknownOpcode s = s
number_of Out most bytes BadImmediate s = s

unsigned_stops : (bits : ℕ) (bytes : List ℕ) (c : Cause) → unsigned_at bits bytes ≡ Err c → FailsUnsigned bits bytes c
unfolding below_at
unsigned_stops bits bytes c e =
    elim (bind_err (group_at (most_bytes bits) bytes) (λ g. cond (ltb (value g.0) (2 ^ bits)) (Ok (value g.0, g.1)) (Err BadInteger)) c e) [
      | inl here ↦ number_of (IsAbove bits) (most_bytes bits) bytes c (group_stops (most_bytes bits) bytes c here)
      | inr there ↦
          let g = refused (ltb (value there.0.0) (2 ^ bits)) BadInteger c (value there.0.0, there.0.1) there.2 in
          let t = group_takes (most_bytes bits) bytes there.0 there.1 in
          subst (FailsUnsigned bits bytes) g.1 (inr (record {
            group = there.0.0;
            rest = there.0.1;
            parts = t.parts;
            is_group = t.group;
            short = t.short;
            out = ltb-false _ _ g.0;
          }))
    ]

unsigned_fails : (bits : ℕ) (bytes : List ℕ) (c : Cause) → FailsUnsigned bits bytes c → unsigned_at bits bytes ≡ Err c
unfolding below_at
unsigned_fails bits bytes Truncated s = rw (high_ends (most_bytes bits) bytes s.high s.short) refl
unsigned_fails bits bytes BadInteger s =
    elim s [
      | inl long ↦ rw (long.parts, high_goes_on (most_bytes bits) long.front long.back long.high long.long) refl
      | inr big ↦ rw (big.parts, group_again (most_bytes bits) big.group big.rest big.is_group big.short, le-ltb _ _ big.out) refl
    ]
unsigned_fails bits bytes UnknownOpcode s = absurd s
unsigned_fails bits bytes BadImmediate s = absurd s

pub unsigned_exact : (bits : ℕ) → Exact (SpellsUnsigned bits) (FailsUnsigned bits) (unsigned_at bits)
unfolding below_at
unsigned_exact bits = record {
  takes = λ bytes n rest e.
      let a = bind_ok (group_at (most_bytes bits) bytes) (λ g. cond (ltb (value g.0) (2 ^ bits)) (Ok (value g.0, g.1)) (Err BadInteger)) (
        n,
        rest,
      ) e in
      let g = test_ok (ltb (value a.0.0) (2 ^ bits)) BadInteger (value a.0.0, a.0.1) (n, rest) a.2 in
      let t = group_takes (most_bytes bits) bytes a.0 a.1 in
      let n-is : value a.0.0 ≡ n = ap (λ (p : ℕ × List ℕ). p.0) g.1 in
      let rest-is : a.0.1 ≡ rest = ap (λ (p : ℕ × List ℕ). p.1) g.1 in (
        a.0.0,
        t.parts ∙ ap (λ (r : List ℕ). a.0.0 ++ r) rest-is,
        record {
          group = t.group;
          short = t.short;
          is = n-is;
          fits = subst (λ (m : ℕ). m < 2 ^ bits) n-is (ltb-true _ _ g.0);
        },
      );
  again = λ text rest n s.
      let test : ltb (value text) (2 ^ bits) ≡ true = lt-ltb _ _ (rw s.is s.fits) in
      rw (group_again (most_bytes bits) text rest s.group s.short, test, s.is) refl;
  stops = unsigned_stops bits;
  fails = unsigned_fails bits;
}

fits_half-within : (half : ℕ) (z : ℤ) → fits_half half z ≡ true → (neg_ℤ (pos half) ≤ℤ z) × (z <ℤ pos half)
fits_half-within half (pos n) e = let lt = ltb-true n half e in (omega (arith, ints), omega (arith, ints))
fits_half-within half (negsuc n) e = let lt = ltb-true n half e in (omega (arith, ints), omega (arith, ints))

within-fits_half : (half : ℕ) (z : ℤ) → neg_ℤ (pos half) ≤ℤ z → z <ℤ pos half → fits_half half z ≡ true
within-fits_half half (pos n) low high = lt-ltb n half (omega (arith, ints))
within-fits_half half (negsuc n) low high = lt-ltb n half (omega (arith, ints))

outside_of : (half : ℕ) (z : ℤ) → fits_half half z ≡ false → (z <ℤ neg_ℤ (pos half)) ⊎ (pos half ≤ℤ z)
outside_of half (pos n) e = let le = ltb-false n half e in inr (omega (arith, ints))
outside_of half (negsuc n) e = let le = ltb-false n half e in inl (omega (arith, ints))

outside-fits_half : (half : ℕ) (z : ℤ) → (z <ℤ neg_ℤ (pos half)) ⊎ (pos half ≤ℤ z) → fits_half half z ≡ false
outside-fits_half half (pos n) (inl low) = le-ltb n half (omega (arith, ints))
outside-fits_half half (pos n) (inr high) = le-ltb n half (omega (arith, ints))
outside-fits_half half (negsuc n) (inl low) = le-ltb n half (omega (arith, ints))
outside-fits_half half (negsuc n) (inr high) = le-ltb n half (omega (arith, ints))

signed_stops : (bits : ℕ) (bytes : List ℕ) (c : Cause) → signed_at bits bytes ≡ Err c → FailsSigned bits bytes c
unfolding within_at
signed_stops bits bytes c e =
    let half = 2 ^ (bits - 1) in
    elim (bind_err (group_at (most_bytes bits) bytes) (λ g. cond (fits_half half (signed_value g.0)) (Ok (signed_value g.0, g.1))
    (Err BadInteger)) c e) [
      | inl here ↦ number_of (IsOutside half) (most_bytes bits) bytes c (group_stops (most_bytes bits) bytes c here)
      | inr there ↦
          let g = refused (fits_half half (signed_value there.0.0)) BadInteger c (signed_value there.0.0, there.0.1) there.2 in
          let t = group_takes (most_bytes bits) bytes there.0 there.1 in
          subst (FailsSigned bits bytes) g.1 (inr (record {
            group = there.0.0;
            rest = there.0.1;
            parts = t.parts;
            is_group = t.group;
            short = t.short;
            out = outside_of half (signed_value there.0.0) g.0;
          }))
    ]

signed_fails : (bits : ℕ) (bytes : List ℕ) (c : Cause) → FailsSigned bits bytes c → signed_at bits bytes ≡ Err c
unfolding within_at
signed_fails bits bytes Truncated s = rw (high_ends (most_bytes bits) bytes s.high s.short) refl
signed_fails bits bytes BadInteger s =
    elim s [
      | inl long ↦ rw (long.parts, high_goes_on (most_bytes bits) long.front long.back long.high long.long) refl
      | inr out ↦ rw (
        out.parts,
        group_again (most_bytes bits) out.group out.rest out.is_group out.short,
        outside-fits_half (2 ^ (bits - 1)) (signed_value out.group) out.out,
      ) refl
    ]
signed_fails bits bytes UnknownOpcode s = absurd s
signed_fails bits bytes BadImmediate s = absurd s

pub signed_exact : (bits : ℕ) → Exact (SpellsSigned bits) (FailsSigned bits) (signed_at bits)
unfolding within_at
signed_exact bits = record {
  takes = λ bytes z rest e.
      let half = 2 ^ (bits - 1) in
      let a = bind_ok (group_at (most_bytes bits) bytes) (λ g. cond (fits_half half (signed_value g.0)) (Ok (signed_value g.0, g.1)) (Err BadInteger))
      (z, rest) e in
      let g = test_ok (fits_half half (signed_value a.0.0)) BadInteger (signed_value a.0.0, a.0.1) (z, rest) a.2 in
      let t = group_takes (most_bytes bits) bytes a.0 a.1 in
      let z-is : signed_value a.0.0 ≡ z = ap (λ (p : ℤ × List ℕ). p.0) g.1 in
      let rest-is : a.0.1 ≡ rest = ap (λ (p : ℤ × List ℕ). p.1) g.1 in
      let w = fits_half-within half (signed_value a.0.0) g.0 in (
        a.0.0,
        t.parts ∙ ap (λ (r : List ℕ). a.0.0 ++ r) rest-is,
        record {
          group = t.group;
          short = t.short;
          is = z-is;
          low = subst (λ (y : ℤ). neg_ℤ (pos half) ≤ℤ y) z-is w.0;
          high = subst (λ (y : ℤ). y <ℤ pos half) z-is w.1;
        },
      );
  again = λ text rest z s.
      let half = 2 ^ (bits - 1) in
      let test : fits_half half (signed_value text) ≡ true = ap (fits_half half) s.is ∙ within-fits_half half z s.low s.high in
      rw (group_again (most_bytes bits) text rest s.group s.short, test) (ap (λ (y : ℤ). Ok (y, rest)) s.is);
  stops = signed_stops bits;
  fails = signed_fails bits;
}
