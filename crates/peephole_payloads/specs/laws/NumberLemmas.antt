-- What `parse` reads is the number that the text writes (this project).
use Rattle.std.proofs.Common.{◌≡◌, ℕ, ◌+◌, ◌-◌, ◌^◌, ◌<◌, ◌≤◌, ltb, Bool, true, false, List, length, drop, get_or, Option, Some, None}
use Rattle.std.proofs.Common.{Result, Ok, Err, refl, sym, ap, subst, ◌∙◌, inl, inr, ℤ, pos, neg_ℤ, arith}
use Rattle.std.specs.Prelude.{◌&&◌, if◌then◌else◌, MatchResult, OkIff, FitsSigned}
use Rattle.std.specs.Option.{option_map}
use Rattle.std.specs.Str.{all_ascii_digits}
use Rattle.std.specs.Str.Parse.{ParsesUnsigned, ParsesSigned, digits_value, without_leading_plus}
use Rattle.std.proofs.lemmas.Bool.{eq-eqb, ne_eqb, cases_eq, ltb-true, lt-ltb}
use Rattle.std.proofs.lemmas.Str.Parse.{IsNumeralModel, numerals_by_value, tells_all_ascii_digits, parse_signed_minus, parse_signed_plus}
use Rattle.std.proofs.lemmas.Str.Parse.{parse_signed_plain, without_leading_plus_none, without_leading_plus_plus}
use mir.Syntax.{Width}
use mir.Val.{hbits}
use Rattle.peephole_payloads.specs.Number.{read_below, read_unsigned, read_signed}

pub own : IsNumeralModel (λ ds. all_ascii_digits ds ≡ true) (digits_value 10)
own = numerals_by_value (λ ds. all_ascii_digits ds ≡ true) tells_all_ascii_digits

not_all : (a b c : Bool) (v : ℕ) → (a ≡ true → b ≡ true → c ≡ true → ⊥) → (if (a && b) && c then Some v else None) ≡ None
not_all true true true v lacks = absurd (lacks refl refl refl)
not_all true true false v lacks = refl
not_all true false c v lacks = refl
not_all false b c v lacks = refl

pub below : (limit : ℕ) (digits : List ℕ) → all_ascii_digits digits ≡ true → 0 < length digits → digits_value 10 digits < limit
    → read_below limit digits ≡ Some (digits_value 10 digits)
below limit digits all some small = rw (lt-ltb 0 (length digits) some, all, lt-ltb (digits_value 10 digits) limit small) refl

not_below : (limit : ℕ) (digits : List ℕ) → (all_ascii_digits digits ≡ true → 0 < length digits → digits_value 10 digits < limit → ⊥) →
    read_below limit digits ≡ None
not_below limit digits lacks =
    not_all (ltb 0 (length digits)) (all_ascii_digits digits) (ltb (digits_value 10 digits) limit) (digits_value 10 digits)
    (λ some all small. lacks all (ltb-true 0 (length digits) some) (ltb-true (digits_value 10 digits) limit small))

-- what was read is what reading below a limit gives, as f of it
abbrev pub Same : {A E : Type 0} → Result A E → Option A → Type 0
Same r o = MatchResult r (λ x. o ≡ Some x) (λ _. o ≡ None)

same_as : {A E : Type 0} (f : ℕ → A) (Bound : Type 0) (limit : ℕ) (digits : List ℕ) → (Bound → digits_value 10 digits < limit) →
    (digits_value 10 digits < limit → Bound)
    → (r : Result A E) → OkIff r ((all_ascii_digits digits ≡ true) × (0 < length digits) × Bound) (f (digits_value 10 digits)) →
    Same r (option_map f (read_below limit digits))
same_as f Bound limit digits to from (Ok x) h = ap (option_map f) (below limit digits h.0.0 h.0.1 (to h.0.2)) ∙ ap (λ y. Some y) (sym h.1)
same_as f Bound limit digits to from (Err e) h = ap (option_map f) (not_below limit digits (λ all some small. h (all, some, from small)))

pub unsigned_same : {E : Type 0} (bits : ℕ) (bs : List ℕ) (r : Result ℕ E) → ParsesUnsigned bits 10 bs r → Same r (read_unsigned bits bs)
unsigned_same bits bs (Ok n) h = below (2 ^ bits) (without_leading_plus bs) (own.from (without_leading_plus bs) h.0.0.1) h.0.0.0 h.0.1
    ∙ ap (λ y. Some y) (sym h.1)
unsigned_same bits bs (Err e) h = not_below (2 ^ bits) (without_leading_plus bs) (λ all some small. h ((some, own.to (without_leading_plus bs) all), small))

pub signed_same : {E : Type 0} (w : Width) (bits : ℕ) → bits - 1 ≡ hbits w → (bs : List ℕ) (r : Result ℤ E) → ParsesSigned w 10 bs r →
    Same r (read_signed bits bs)
signed_same w bits wide bs r h =
    rw wide
    (elim (cases_eq (get_or bs 0 0) 45) [
      | inl minus ↦
          rw (eq-eqb (get_or bs 0 0) 45 minus)
          (same_as (λ n. neg_ℤ (pos n)) (digits_value 10 (drop 1 bs) ≤ 2 ^ hbits w) (2 ^ hbits w + 1) (drop 1 bs) (λ b. omega arith) (λ b. omega arith) r
          (parse_signed_minus own w bs r h minus))
      | inr other ↦ rw (ne_eqb (get_or bs 0 0) 45 other) (elim (cases_eq (get_or bs 0 0) 43) [
        | inl plus ↦
            rw (without_leading_plus_plus bs plus)
            (same_as (λ n. pos n) (digits_value 10 (drop 1 bs) < 2 ^ hbits w) (2 ^ hbits w) (drop 1 bs) (λ b. b) (λ b. b) r
            (parse_signed_plus own w bs r h plus))
        | inr none ↦
            rw (without_leading_plus_none bs none)
            (same_as (λ n. pos n) (digits_value 10 bs < 2 ^ hbits w) (2 ^ hbits w) bs (λ b. b) (λ b. b) r (parse_signed_plain own w bs r h none other))
      ])
    ])

pub signed_fits : (w : Width) (bs : List ℕ) (z : ℤ) → ParsesSigned {E = Unit {0}} w 10 bs (Ok z) → FitsSigned w z
signed_fits w bs z h = subst (FitsSigned w) (sym h.1) h.0.1
