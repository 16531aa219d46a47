-- Reading functions and grammars, part by part.
use Rattle.std.proofs.Common.{◌≡◌, ◌≢◌, ◌⊎◌, inl, inr, ℕ, zero, suc, ◌<◌, ◌≤◌, ltb, Bool, true, false, cond, List, [], ◌∷◌, ◌++◌, length}
use Rattle.std.proofs.Common.{get_or, take, drop, Option, Some, None, Result, Ok, Err, refl, sym, ap, ◌∙◌, append_assoc, arith}
use Rattle.std.specs.Prelude.{All}
use Rattle.std.proofs.lemmas.Bool.{le-ltb, lt-ltb, ltb-true, ltb-false}
use Rattle.std.proofs.lemmas.List.{length-append, length-take, take-append-drop, take_at, drop_at, get_or-take, get_or_default}
use Rattle.wasm_code.specs.declared.fault.Cause.{Cause}
use Rattle.wasm_code.specs.declared.fault.Cause.TheVariants.{Truncated, BadImmediate}
use Rattle.wasm_code.specs.Grammar.{IsByte, LacksByte, AreBytes, LacksBytes, IsCode, FailsCode, NoBytes, NeverFails, Never, NamesNothing}
use Rattle.wasm_code.specs.Grammar.{Of, Choose, FailsChosen, Then, FailsThen, Times, FailsTimes}
use Rattle.wasm_code.specs.Reader.{◌>>=◌, byte_at, bytes_at, named_at, times_at}

abbrev pub Reader : Type 0 → Type 0
Reader A = List ℕ → Result (A × List ℕ) Cause

-- Reading takes exactly what is spelled, whatever follows it, and fails exactly where no spelling begins the bytes.
pub record Exact {A : Type 0} (Spells : List ℕ → A → Type 0) (Fails : List ℕ → Cause → Type 0) (at : List ℕ →
    Result (A × List ℕ) Cause) : Type 0 where
  pub takes : (bytes : List ℕ) (x : A) (rest : List ℕ) → at bytes ≡ Ok (x, rest) → (text : List ℕ) × (bytes ≡ text ++ rest) × Spells text x
  pub again : (text rest : List ℕ) (x : A) → Spells text x → at (text ++ rest) ≡ Ok (x, rest)
  pub stops : (bytes : List ℕ) (cause : Cause) → at bytes ≡ Err cause → Fails bytes cause
  pub fails : (bytes : List ℕ) (cause : Cause) → Fails bytes cause → at bytes ≡ Err cause

-- ---- one step after another

pub bind_ok : {A B : Type 0} (r : Result A Cause) (f : A → Result B Cause) (y : B) → (r >>= f) ≡ Ok y → (x : A) × (r ≡ Ok x) × (f x ≡ Ok y)
bind_ok (Ok x) f y e = (x, refl, e)
bind_ok (Err d) f y e = absurd cc

abbrev failed : {A : Type 0} → Cause → Result A Cause
failed c = Err c

pub err_is : {A : Type 0} (c d : Cause) → failed {A = A} c ≡ failed {A = A} d → c ≡ d
err_is {A} c d e = cc

pub bind_err : {A B : Type 0} (r : Result A Cause) (f : A → Result B Cause) (d : Cause) → (r >>= f) ≡ Err d →
    (r ≡ Err d) ⊎ ((x : A) × (r ≡ Ok x) × (f x ≡ Err d))
bind_err (Ok x) f d e = inr (x, refl, e)
bind_err (Err c) f d e = inl (ap failed (err_is c d e))

abbrev done : {A : Type 0} → A → Result A Cause
done x = Ok x

pub ok_is : {A : Type 0} (x y : A) → done x ≡ done y → x ≡ y
ok_is x y e = cc

-- ---- the words of grammars

byte_takes : (bytes : List ℕ) (b : ℕ) (rest : List ℕ) → byte_at bytes ≡ Ok (b, rest) → (text : List ℕ) × (bytes ≡ text ++ rest) × IsByte text b
byte_takes [] b rest e = absurd cc
byte_takes (c ∷ bytes) b rest e =
    let p = ok_is (c, bytes) (b, rest) e in
    (c ∷ [], ap (λ (q : ℕ × List ℕ). c ∷ q.1) p, ap (λ (q : ℕ × List ℕ). q.0 ∷ []) p)

byte_stops : (bytes : List ℕ) (cause : Cause) → byte_at bytes ≡ Err cause → LacksByte bytes cause
byte_stops [] cause e = (refl, sym (err_is {A = ℕ × List ℕ} Truncated cause e))
byte_stops (b ∷ bytes) cause e = absurd cc

pub byte_exact : Exact IsByte LacksByte byte_at
byte_exact = record { takes = byte_takes; again = λ text rest b s. rw s refl; stops = byte_stops; fails = λ bytes cause f. rw (f.0, f.1) refl }

pub exact_ends : {A : Type 0} (x : A) → Exact (NoBytes x) NeverFails (λ bytes. Ok (x, bytes))
exact_ends {A} x = record {
  takes = λ bytes y rest e.
      let p = ok_is (x, bytes) (y, rest) e in
      ([], ap (λ (q : A × List ℕ). q.1) p, (refl, ap (λ (q : A × List ℕ). q.0) p));
  again = λ text rest y s. rw (s.0, s.1) refl;
  stops = λ bytes cause e. absurd cc;
  fails = λ bytes cause f. absurd f;
}

pub exact_of : {A B : Type 0} {Spells : List ℕ → A → Type 0} {Fails : List ℕ → Cause → Type 0} {at : Reader A} (f : A → B) → Exact Spells Fails at →
    Exact (Of f Spells) Fails (λ bytes. at bytes >>= λ x. Ok (f x.0, x.1))
exact_of {A} {B} {Spells} {Fails} {at} f one = record {
  takes = λ bytes y rest e.
      let a = bind_ok (at bytes) (λ x. Ok (f x.0, x.1)) (y, rest) e in
      let p = ok_is (f a.0.0, a.0.1) (y, rest) a.2 in
      let t = one.takes bytes a.0.0 a.0.1 a.1 in
      (t.0, t.1 ∙ ap (λ (q : B × List ℕ). t.0 ++ q.1) p, record { value = a.0.0; spells = t.2; made = ap (λ (q : B × List ℕ). q.0) p });
  again = λ text rest y s. rw (one.again text rest s.value s.spells, s.made) refl;
  stops = λ bytes cause e.
      elim (bind_err (at bytes) (λ x. Ok (f x.0, x.1)) cause e) [
        | inl here ↦ one.stops bytes cause here
        | inr there ↦ let e' = there.2 in absurd cc
      ];
  fails = λ bytes cause s. rw (one.fails bytes cause s) refl;
}

pub exact_choose : {A : Type 0} {Yes No : List ℕ → A → Type 0} {FailsYes FailsNo : List ℕ → Cause → Type 0} {yes_at no_at : Reader A} (b : Bool) →
    Exact Yes FailsYes yes_at → Exact No FailsNo no_at
    → Exact (Choose b Yes No) (FailsChosen b FailsYes FailsNo) (λ bytes. cond b (yes_at bytes) (no_at bytes))
exact_choose true first second = record { takes = first.takes; again = first.again; stops = first.stops; fails = first.fails }
exact_choose false first second = record { takes = second.takes; again = second.again; stops = second.stops; fails = second.fails }

pub exact_then : {A B : Type 0} {First : List ℕ → A → Type 0} {Second : A → List ℕ → B → Type 0} {FailsFirst : List ℕ → Cause →
    Type 0} {FailsSecond : A → List ℕ → Cause → Type 0} {first_at : Reader A} {second_at : A → Reader B}
    → Exact First FailsFirst first_at → ((a : A) → Exact (Second a) (FailsSecond a) (second_at a)) →
    Exact (Then First Second) (FailsThen FailsFirst First FailsSecond) (λ bytes. first_at bytes >>= λ x. second_at x.0 x.1)
exact_then {A} {B} {First} {Second} {FailsFirst} {FailsSecond} {first_at} {second_at} one two = record {
  takes = λ bytes y rest e.
      let a = bind_ok (first_at bytes) (λ x. second_at x.0 x.1) (y, rest) e in
      let t = one.takes bytes a.0.0 a.0.1 a.1 in
      let u = (two a.0.0).takes a.0.1 y rest a.2 in (
        t.0 ++ u.0,
        t.1 ∙ ap (λ (r : List ℕ). t.0 ++ r) u.1 ∙ sym (append_assoc t.0 u.0 rest),
        record {
          value = a.0.0;
          front = t.0;
          back = u.0;
          parts = refl;
          first = t.2;
          second = u.2;
        },
      );
  again = λ text rest y s.
      let regrouped : text ++ rest ≡ s.front ++ (s.back ++ rest) = ap (λ (r : List ℕ). r ++ rest) s.parts ∙ append_assoc s.front s.back rest in
      ap (λ (r : List ℕ). first_at r >>= λ x. second_at x.0 x.1) regrouped ∙ rw (one.again s.front (s.back ++ rest) s.value s.first)
      ((two s.value).again s.back rest y s.second);
  stops = λ bytes cause e.
      elim (bind_err (first_at bytes) (λ x. second_at x.0 x.1) cause e) [
        | inl here ↦ inl (one.stops bytes cause here)
        | inr there ↦
            let t = one.takes bytes there.0.0 there.0.1 there.1 in
            inr (record {
              value = there.0.0;
              front = t.0;
              back = there.0.1;
              parts = t.1;
              first = t.2;
              second = (two there.0.0).stops there.0.1 cause there.2;
            })
      ];
  fails = λ bytes cause s.
      elim s [
        | inl here ↦ rw (one.fails bytes cause here) refl
        | inr there ↦
            ap (λ (r : List ℕ). first_at r >>= λ x. second_at x.0 x.1) there.parts ∙ rw (one.again there.front there.back there.value there.first)
            ((two there.value).fails there.back cause there.second)
      ];
}

-- the same spellings and the same faults under other names
pub exact_same : {A : Type 0} {One Other : List ℕ → A → Type 0} {FailsOne FailsOther : List ℕ → Cause → Type 0} {at : Reader A}
    → ((text : List ℕ) (x : A) → One text x → Other text x) → ((text : List ℕ) (x : A) → Other text x → One text x)
    → ((bytes : List ℕ) (c : Cause) → FailsOne bytes c → FailsOther bytes c) → ((bytes : List ℕ) (c : Cause) → FailsOther bytes c → FailsOne bytes c)
    → Exact One FailsOne at → Exact Other FailsOther at
exact_same to from fails_to fails_from one = record {
  takes = λ bytes x rest e. let t = one.takes bytes x rest e in (t.0, t.1, to t.0 x t.2);
  again = λ text rest x s. one.again text rest x (from text x s);
  stops = λ bytes c e. fails_to bytes c (one.stops bytes c e);
  fails = λ bytes c s. one.fails bytes c (fails_from bytes c s);
}

-- another reading function that answers the same
pub exact_at : {A : Type 0} {Spells : List ℕ → A → Type 0} {Fails : List ℕ → Cause → Type 0} {at other : Reader A} →
    ((bytes : List ℕ) → at bytes ≡ other bytes) → Exact Spells Fails at → Exact Spells Fails other
exact_at same one = record {
  takes = λ bytes x rest e. one.takes bytes x rest (same bytes ∙ e);
  again = λ text rest x s. sym (same (text ++ rest)) ∙ one.again text rest x s;
  stops = λ bytes cause e. one.stops bytes cause (same bytes ∙ e);
  fails = λ bytes cause s. sym (same bytes) ∙ one.fails bytes cause s;
}

-- that always fails, since what stands before names nothing
pub exact_never : {A : Type 0} → Exact {A = A} Never NamesNothing (λ bytes. Err BadImmediate)
exact_never {A} = record {
  takes = λ bytes x rest e. absurd cc;
  again = λ text rest x s. absurd s;
  stops = λ bytes cause e. sym (err_is {A = A × List ℕ} BadImmediate cause e);
  fails = λ bytes cause s. ap failed (sym s);
}

-- ---- so many bytes

-- a test that did not fail, the other way round
test_ok : {A : Type 0} (b : Bool) (c : Cause) (x y : A) → cond b (Err c) (Ok x) ≡ Ok y → (b ≡ false) × (x ≡ y)
test_ok true c x y e = absurd cc
test_ok false c x y e = (refl, cc)

test_err : {A : Type 0} (b : Bool) (c d : Cause) (x : A) → cond b (Err c) (Ok x) ≡ Err d → (b ≡ true) × (c ≡ d)
test_err {A} true c d x e = (refl, err_is {A = A} c d e)
test_err false c d x e = absurd cc

pub bytes_exact : (n : ℕ) → Exact (AreBytes n) (LacksBytes n) (bytes_at n)
bytes_exact n = record {
  takes = λ bytes x rest e.
      let g = test_ok (ltb (length bytes) n) Truncated (take n bytes, drop n bytes) (x, rest) e in
      let long : n ≤ length bytes = ltb-false _ _ g.0 in
      let rest-is : drop n bytes ≡ rest = ap (λ (p : List ℕ × List ℕ). p.1) g.1 in (
        take n bytes,
        sym (take-append-drop n bytes) ∙ ap (λ (r : List ℕ). take n bytes ++ r) rest-is,
        (omega (arith, length-take n bytes), ap (λ (p : List ℕ × List ℕ). p.0) g.1),
      );
  again = λ text rest x s.
      let long : ltb (length (text ++ rest)) n ≡ false = le-ltb _ _ (omega (arith, length-append text rest, s.0)) in
      rw (long, take_at text rest n s.0, drop_at text rest n s.0) (ap (λ (y : List ℕ). Ok (y, rest)) s.1);
  stops = λ bytes cause e.
      let g = test_err (ltb (length bytes) n) Truncated cause (take n bytes, drop n bytes) e in
      (ltb-true _ _ g.0, sym g.1);
  fails = λ bytes cause s. rw (lt-ltb _ _ s.0, s.1) refl;
}

-- so many bytes of bytes are bytes
pub bytes_small : (n : ℕ) (bytes text rest : List ℕ) → bytes_at n bytes ≡ Ok (text, rest) → ((i : ℕ) → get_or bytes i 0 < 256) → (length text ≡ n)
    × All (λ b. b < 256) text
bytes_small n bytes text rest e small =
    let g = test_ok (ltb (length bytes) n) Truncated (take n bytes, drop n bytes) (text, rest) e in
    let long : n ≤ length bytes = ltb-false _ _ g.0 in
    let is : take n bytes ≡ text = ap (λ (p : List ℕ × List ℕ). p.0) g.1 in
    let len : length text ≡ n = omega (arith, sym (ap length is), length-take n bytes, long) in (
      len,
      λ k d within. omega (
        arith,
        ap (λ (l : List ℕ). get_or l k d) is,
        get_or-take n bytes k d (omega (arith, within, len)),
        get_or_default bytes k d 0 (omega (arith, within, len, long)),
        small k,
      ),
    )

-- ---- the byte of a code

code_takes : {A : Type 0} (code : A → ℕ) (b : ℕ) (bytes : List ℕ) (o : Option A) (x : A) (rest : List ℕ) → ((y : A) → o ≡ Some y → code y ≡ b) →
    named_at o bytes ≡ Ok (x, rest) → (text : List ℕ) × (b ∷ bytes ≡ text ++ rest) × IsCode code text x
code_takes code b bytes None x rest is e = absurd cc
code_takes {A} code b bytes (Some y) x rest is e =
    let p = ok_is (y, bytes) (x, rest) e in
    (b ∷ [], ap (λ (q : A × List ℕ). b ∷ q.1) p, ap (λ (c : ℕ). c ∷ []) (sym (is y refl)) ∙ ap (λ (q : A × List ℕ). code q.0 ∷ []) p)

code_stops : {A : Type 0} (code : A → ℕ) (b : ℕ) (bytes : List ℕ) (o : Option A) (cause : Cause) → ((y : A) → code y ≡ b → o ≡ Some y) →
    named_at o bytes ≡ Err cause → (cause ≡ BadImmediate) × ((x : A) → code x ≢ b)
code_stops {A} code b bytes None cause is e = (sym (err_is {A = A × List ℕ} BadImmediate cause e), λ x same. let clash = is x same in absurd cc)
code_stops code b bytes (Some y) cause is e = absurd cc

code_fails : {A : Type 0} (code : A → ℕ) (b : ℕ) (bytes : List ℕ) (o : Option A) (cause : Cause) → ((y : A) → o ≡ Some y → code y ≡ b) →
    (cause ≡ BadImmediate) × ((x : A) → code x ≢ b) → named_at o bytes ≡ Err cause
code_fails code b bytes None cause is s = ap failed (sym s.0)
code_fails code b bytes (Some y) cause is s = absurd (s.1 y (is y refl))

pub exact_code : {A : Type 0} (code : A → ℕ) (named : ℕ → Option A) → ((b : ℕ) (x : A) → named b ≡ Some x → code x ≡ b) →
    ((x : A) → named (code x) ≡ Some x)
    → Exact (IsCode code) (FailsCode code) (λ bytes. byte_at bytes >>= λ b. named_at (named b.0) b.1)
exact_code {A} code named right left = record { takes = takes; again = λ text rest x s. rw (s, left x) refl; stops = stops; fails = fails }
  where
    back : (b : ℕ) (x : A) → code x ≡ b → named b ≡ Some x
    back b x is = ap named (sym is) ∙ left x

    takes : (bytes : List ℕ) (x : A) (rest : List ℕ) → (byte_at bytes >>= λ b. named_at (named b.0) b.1) ≡ Ok (x, rest) → (text : List ℕ)
        × (bytes ≡ text ++ rest) × IsCode code text x
    takes [] x rest e = absurd cc
    takes (b ∷ bytes) x rest e = code_takes code b bytes (named b) x rest (right b) e

    stops : (bytes : List ℕ) (cause : Cause) → (byte_at bytes >>= λ b. named_at (named b.0) b.1) ≡ Err cause → FailsCode code bytes cause
    stops [] cause e = sym (err_is {A = A × List ℕ} Truncated cause e)
    stops (b ∷ bytes) cause e = code_stops code b bytes (named b) cause (back b) e

    fails : (bytes : List ℕ) (cause : Cause) → FailsCode code bytes cause → (byte_at bytes >>= λ b. named_at (named b.0) b.1) ≡ Err cause
    fails [] cause s = ap failed (sym s)
    fails (b ∷ bytes) cause s = code_fails code b bytes (named b) cause (right b) s

-- ---- one after another

pub exact_times : {A : Type 0} {One : List ℕ → A → Type 0} {FailsOne : List ℕ → Cause → Type 0} {at : Reader A} → Exact One FailsOne at → (n : ℕ) →
    Exact (Times n One) (FailsTimes n FailsOne One) (times_at n at)
unfolding times_at
exact_times one zero = exact_ends tt
exact_times one (suc n) = exact_then one (λ _. exact_times one n)
