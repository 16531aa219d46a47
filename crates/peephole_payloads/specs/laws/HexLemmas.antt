-- Numbers in hexadecimal digits: what is read, what is written, and that it is read back (this project).
use Rattle.std.proofs.Common.{◌≡◌, ◌≢◌, ℕ, zero, suc, ◌+◌, ◌-◌, ◌/◌, ◌%◌, ◌^◌, ◌<◌, ◌≤◌, eqb, Bool, true, false, List, [], ◌∷◌, ◌++◌}
use Rattle.std.proofs.Common.{length, replicate, get_or, Some, None, Ok, Err, refl, sym, ap, subst, ◌∙◌, inl, inr, lit<, lit≤}
use Rattle.std.proofs.Common.{length-append, arith}
use Rattle.std.specs.Prelude.{◌&&◌, if◌then◌else◌}
use Rattle.std.specs.Char.{digit_value, is_digit}
use Rattle.std.specs.Fmt.{digits, digits_onto, digit_glyph, padded_integral, format_spec, char_count}
use Rattle.std.specs.List.{list_all}
use Rattle.std.specs.Str.Parse.{AllDigits, digits_value, ParsesUnsigned}
use Rattle.std.proofs.lemmas.Bool.{eq-eqb, ne_eqb, cases_eq, lt-ltb, ltb-true, eqb-true}
use Rattle.std.proofs.lemmas.Fmt.{digits_is_IsNumeral}
use Rattle.std.proofs.lemmas.Int.Digits.{digits_value-lt}
use Rattle.std.proofs.lemmas.List.{length-replicate, append-nil}
use Rattle.std.proofs.lemmas.Str.Parse.{without_leading_plus_none}
use Rattle.std.proofs.Math.Nat.{pow-le-pow_right, pow-suc, div-lt_iff_lt-mul}
use Rattle.peephole_payloads.specs.PayloadText.{read_hex, hex_text}

-- ---- reading

abbrev AllHex : List ℕ → Bool
AllHex = list_all (λ c. is_digit c 16)

both : (a b : Bool) → (a && b) ≡ true → (a ≡ true) × (b ≡ true)
both true b h = (refl, h)
both false b h = absurd cc

all_hex : (ds : List ℕ) → AllDigits 16 ds → AllHex ds ≡ true
all_hex [] h = refl
all_hex (c ∷ cs) h = ap (λ b. b && AllHex cs) (lt-ltb (digit_value c) 16 h.0) ∙ all_hex cs h.1

hex_all : (ds : List ℕ) → AllHex ds ≡ true → AllDigits 16 ds
hex_all [] h = tt
hex_all (c ∷ cs) h = let p = both (is_digit c 16) (AllHex cs) h in (ltb-true (digit_value c) 16 p.0, hex_all cs p.1)

not_both : (a b : Bool) (v : ℕ) → (a ≡ true → b ≡ true → ⊥) → (if a && b then Some v else None) ≡ None
not_both true true v lacks = absurd (lacks refl refl)
not_both true false v lacks = refl
not_both false b v lacks = refl

read_none : (count : ℕ) (text : List ℕ) → (length text ≡ count → AllDigits 16 text → ⊥) → read_hex count text ≡ None
read_none count text lacks =
    not_both (eqb (length text) count) (AllHex text) (digits_value 16 text) (λ long all. lacks (eqb-true (length text) count long) (hex_all text all))

read_some : (count : ℕ) (text : List ℕ) → length text ≡ count → AllDigits 16 text → read_hex count text ≡ Some (digits_value 16 text)
read_some count text long all =
    ap (λ b. if b && AllHex text then Some (digits_value 16 text) else None) (eq-eqb (length text) count long)
    ∙ ap (λ b. if b then Some (digits_value 16 text) else None) (all_hex text all)

pub parsed : (E : Type 0) (count n : ℕ) (text : List ℕ) → length text ≡ count → get_or text 0 0 ≢ 43 → ParsesUnsigned {E = E} 64 16 text (Ok n)
    → (Some n ≡ read_hex count text) × (n < 16 ^ count)
parsed E count n text long plain h =
    let same = without_leading_plus_none text plain in
    let all : AllDigits 16 text = subst (AllDigits 16) same h.0.0.1 in
    let value : n ≡ digits_value 16 text = h.1 ∙ ap (digits_value 16) same in (
      ap (λ x. Some x) value ∙ sym (read_some count text long all),
      subst (λ x. n < 16 ^ x) long (subst (λ x. x < 16 ^ length text) (sym value) (digits_value-lt 16 text all)),
    )

pub not_parsed : {E : Type 0} (count : ℕ) (e : E) (text : List ℕ) → 0 < count → count ≤ 16 → get_or text 0 0 ≢ 43 → ParsesUnsigned 64 16 text (Err e)
    → None ≡ read_hex count text
not_parsed count e text some few plain h =
    let same = without_leading_plus_none text plain in
    sym (read_none count text (λ long all.
    let small : digits_value 16 text < 16 ^ length text = digits_value-lt 16 text all in
    let base : 0 < 16 = lit< tt in
    let bound : length text ≤ 16 = omega arith in
    let top : 16 ^ length text ≤ 16 ^ 16 = pow-le-pow_right base bound in
    let fits : digits_value 16 text < 2 ^ 64 = omega arith in
    subst (λ t. ((0 < length t) × AllDigits 16 t) × (digits_value 16 t < 2 ^ 64) → ⊥) same h ((omega arith, all), fits)))

-- ---- writing

pad : (width : ℕ) (ds : List ℕ) → replicate (width - length ds - 0 - 0) 48 ++ (ds ++ []) ≡ replicate (width - length ds) 48 ++ ds
pad width ds =
    let k : width - length ds - 0 - 0 ≡ width - length ds = omega arith in
    λ i. replicate (k i) 48 ++ append-nil ds i

pub padded_8 : (n : ℕ) → padded_integral (format_spec 32 0 4 8 (2 ^ 64 - 1)) false [] (digits 16 false n) ≡ hex_text 8 n
unfolding padded_integral char_count
padded_8 n = pad 8 (digits 16 false n)

pub padded_16 : (n : ℕ) → padded_integral (format_spec 32 0 4 16 (2 ^ 64 - 1)) false [] (digits 16 false n) ≡ hex_text 16 n
unfolding padded_integral char_count
padded_16 n = pad 16 (digits 16 false n)

-- ---- reading back

-- what is left of the number has one digit less
fewer : (j n count len : ℕ) → ((i : ℕ) → n / 16 < 16 ^ suc i → count ≤ suc i + suc len) → n < 16 ^ suc j → n / 16 ≢ 0 → count ≤ suc j + len
fewer zero n count len h small some = absurd (some (omega arith))
fewer (suc i) n count len h small some =
    let rest : n / 16 < 16 ^ suc i = (div-lt_iff_lt-mul (lit< tt)).1 (omega (arith, pow-suc 16 (suc i))) in
    omega (arith, h i rest)

-- a number below a power of the base has no more digits than the exponent
length_onto : (k j n : ℕ) (acc : List ℕ) → n < 16 ^ suc j → length (digits_onto k 16 false n acc) ≤ suc j + length acc
length_onto zero j n acc small = omega arith
length_onto (suc k) j n acc small =
    let more : List ℕ = digit_glyph false (n % 16) ∷ acc in
    elim (cases_eq (n / 16) 0) [
      | inl last ↦ subst (λ b. length (if b then more else digits_onto k 16 false (n / 16) more) ≤ suc j + length acc) (sym (eq-eqb (n / 16) 0 last))
          (omega arith)
      | inr some ↦
          subst (λ b. length (if b then more else digits_onto k 16 false (n / 16) more) ≤ suc j + length acc) (sym (ne_eqb (n / 16) 0 some))
          (fewer j n (length (digits_onto k 16 false (n / 16) more)) (length acc) (λ i. length_onto k i (n / 16) more) small some)
    ]

length_digits : (j n : ℕ) → n < 16 ^ suc j → length (digits 16 false n) ≤ suc j
unfolding digits
length_digits j n small = omega (arith, length_onto 64 j n [] small)

zeros_are_digits : (k : ℕ) (ds : List ℕ) → AllDigits 16 ds → AllDigits 16 (replicate k 48 ++ ds)
zeros_are_digits zero ds h = h
zeros_are_digits (suc k) ds h = (lit< tt, zeros_are_digits k ds h)

zeros_count_nothing : (k : ℕ) (ds : List ℕ) → digits_value 16 (replicate k 48 ++ ds) ≡ digits_value 16 ds
zeros_count_nothing zero ds = refl
zeros_count_nothing (suc k) ds = zeros_count_nothing k ds

pub hex_back : (j n : ℕ) → n < 16 ^ suc j → n < 16 ^ 64 → read_hex (suc j) (hex_text (suc j) n) ≡ Some n
hex_back j n small wide =
    let ds : List ℕ = digits 16 false n in
    let zeros : ℕ = suc j - length ds in
    let h = digits_is_IsNumeral 16 false (lit≤ tt) (lit≤ tt) n wide in
    let short : length ds ≤ suc j = length_digits j n small in
    let long : length (hex_text (suc j) n) ≡ suc j = omega (arith, length-append (replicate zeros 48) ds, length-replicate {A = ℕ} zeros 48) in
    read_some (suc j) (hex_text (suc j) n) long (zeros_are_digits zeros ds h.0.1)
    ∙ ap (λ x. Some x) (zeros_count_nothing zeros ds ∙ h.1)
