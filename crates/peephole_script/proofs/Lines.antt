-- Cutting the input into lines, and reading numbers.
use Rattle.std.proofs.Common.{◌≡◌, ◌&&◌, ℕ, suc, zero, ◌+◌, ◌<◌, ◌≤◌, ◌^◌, ◌==◌, Bool, true, false, not, cond, List, [], ◌∷◌, length, take}
use Rattle.std.proofs.Common.{drop, refl, arith, rules, get_or, length-drop, Ok, Err, Some, None}
use Rattle.std.proofs.lemmas.Bool.Decides.{nat_tests}
use Rattle.std.proofs.lemmas.List.Sums.{position_or_len_is}
use Rattle.std.specs.Prelude.{Option, Result, position}
use Rattle.std.specs.List.{onto_first, list_all, position_or_len, before_first, after_first}
use Rattle.std.specs.Result.{result_ok}
use Rattle.std.specs.Char.{is_ascii_digit}
use Rattle.std.specs.Str.Parse.{digits_value, ParsesUnsigned}
use Rattle.std.proofs.lemmas.Str.Parse.{IsNumeralModel, IsDigitsTest, numerals_by_value, parse_digits}
use Rattle.std.proofs.lemmas.Str.{IsUtf8-from_ascii}
use Rattle.std.specs.Str.{IsUtf8}
use Rattle.memchr.specs.Find.{IsFirstByte}
use Rattle.peephole_script.specs.Text.{is_byte, is_text, is_text_byte, lines_of, number_of}

pub position_or_len_le : {X : Type 0} (p : X → Bool) (xs : List X) → position_or_len p xs ≤ length xs
position_or_len_le p [] = omega arith
position_or_len_le p (x ∷ xs) =
    elim (p x) as (λ t. cond (not t) (1 + position_or_len p xs) 0 ≤ length (x ∷ xs)) [
      | true ↦ omega arith
      | false ↦ omega (arith, position_or_len_le p xs)
    ]

-- where `position` finds something, and where not
pub position_some : (bytes : List ℕ) (at : ℕ) → position (is_byte 10) bytes ≡ Some at → (position_or_len (is_byte 10) bytes ≡ at) × (at < length bytes)
position_some bytes at h = grind (arith, nat_tests)

pub position_none : (bytes : List ℕ) → position (is_byte 10) bytes ≡ None → position_or_len (is_byte 10) bytes ≡ length bytes
position_none bytes h = grind (arith, nat_tests, position_or_len_le (is_byte 10) bytes)

is_false : (b : Bool) → (b ≡ true → ⊥) → b ≡ false
is_false true h = absurd (h refl)
is_false false h = refl

-- what a search for a line feed finds is its place
pub line_end-found : (bytes : List ℕ) (r : Option ℕ) → IsFirstByte (is_byte 10) bytes r → r ≡ position (is_byte 10) bytes
line_end-found bytes None h =
    let e = position_or_len_is (is_byte 10) bytes (length bytes) 0 (omega arith) (λ k below. is_false _ (h k (omega arith) below))
    (λ less. absurd (omega arith)) in
    grind (arith, nat_tests, e)
line_end-found bytes (Some at) h =
    let below = h.0.high in
    let e = position_or_len_is (is_byte 10) bytes at 0 (omega arith) (λ k less. is_false _ (h.0.before k (omega arith) less)) (λ _. h.1) in
    grind (arith, nat_tests, e, below)

pub ruleset places = (position_some, position_none)

onto_cut : (b : ℕ) (xs : List ℕ) (k : ℕ) (ls : List (List ℕ)) → ls ≡ take k xs ∷ lines_of (drop (k + 1) xs) →
    onto_first b ls ≡ take (1 + k) (b ∷ xs) ∷ lines_of (drop (1 + k + 1) (b ∷ xs))
onto_cut b xs k ls h =
    let e : 1 + k ≡ suc k = omega arith in
    let f : 1 + k + 1 ≡ suc (k + 1) = omega arith in
    rw (f, e, h)

-- the first line, and the lines after it
pub lines_of-cut : (b : ℕ) (xs : List ℕ) → lines_of (b ∷ xs) ≡ before_first (is_byte 10) (b ∷ xs) ∷ lines_of (after_first (is_byte 10) (b ∷ xs))
lines_of-cut b [] =
    elim (b == 10) as (λ t. cond t ([] ∷ []) ((b ∷ []) ∷ []) ≡ take (cond (not t) 1 0) (b ∷ []) ∷ lines_of (drop (cond (not t) 1 0 + 1) (b ∷ []))) [
      | true ↦ refl
      | false ↦ refl
    ]
lines_of-cut b (c ∷ cs) =
    elim (b == 10) as (λ t. cond t ([] ∷ lines_of (c ∷ cs)) (onto_first b (lines_of (c ∷ cs)))
    ≡ take (cond (not t) (1 + position_or_len (is_byte 10) (c ∷ cs)) 0) (b ∷ c ∷ cs)
    ∷ lines_of (drop (cond (not t) (1 + position_or_len (is_byte 10) (c ∷ cs)) 0 + 1) (b ∷ c ∷ cs))) [
      | true ↦ refl
      | false ↦ onto_cut b (c ∷ cs) (position_or_len (is_byte 10) (c ∷ cs)) (lines_of (c ∷ cs)) (lines_of-cut c cs)
    ]

-- the same of a line that `cut_line` gave
pub lines_of-cut_line : (xs line more : List ℕ) → 0 < length xs → line ≡ before_first (is_byte 10) xs → more ≡ after_first (is_byte 10) xs →
    lines_of xs ≡ line ∷ lines_of more
lines_of-cut_line [] line more h e f = absurd (omega arith)
lines_of-cut_line (b ∷ xs) line more h e f = rw (e, f) (lines_of-cut b xs)

pub length-after_line : (xs more : List ℕ) → 0 < length xs → more ≡ after_first (is_byte 10) xs → length more + 1 ≤ length xs
length-after_line xs more h e = rw e (omega (arith, length-drop {A = ℕ}))

digits_test : IsDigitsTest (λ ds. list_all is_ascii_digit ds ≡ true)
digits_test = search rules

own_numerals : IsNumeralModel (λ ds. list_all is_ascii_digit ds ≡ true) (digits_value 10)
own_numerals = numerals_by_value _ digits_test

number_some : (word : List ℕ) (x : ℕ) → list_all is_ascii_digit word ≡ true → 0 < length word → digits_value 10 word < 2 ^ 64 →
    x ≡ digits_value 10 word → Some x ≡ number_of word
number_some word x a b d e = grind (arith, nat_tests)

number_none : (word : List ℕ) → (list_all is_ascii_digit word ≡ true → 0 < length word → digits_value 10 word < 2 ^ 64 → ⊥) → None ≡ number_of word
number_none word h = grind (arith, nat_tests)

-- what `parse` gives of digits alone
pub number_of-parsed : {E : Type 0} (word : List ℕ) (r : Result ℕ E) → ParsesUnsigned 64 10 word r → list_all is_ascii_digit word ≡ true →
    result_ok r ≡ number_of word
number_of-parsed {E} word (Ok x) h d = let k = parse_digits own_numerals {E = E} 64 word (Ok x) h d in number_some word x d k.0.0 k.0.1 k.1
number_of-parsed {E} word (Err e) h d = let k = parse_digits own_numerals {E = E} 64 word (Err e) h d in number_none word (λ a b v. k (b, v))

and_first : (a b : Bool) → a && b ≡ true → a ≡ true
and_first true b h = refl
and_first false b h = h

and_second : (a b : Bool) → a && b ≡ true → b ≡ true
and_second true b h = h
and_second false b h = cc

text_byte : (b : ℕ) → is_text_byte b ≡ true → b < 128
text_byte b h = grind (arith, nat_tests)

all_ascii : (line : List ℕ) → list_all is_text_byte line ≡ true → (k : ℕ) → get_or line k 0 < 128
all_ascii [] h k = omega arith
all_ascii (b ∷ line) h zero = text_byte b (and_first _ _ h)
all_ascii (b ∷ line) h (suc k) = all_ascii line (and_second _ _ h) k

-- a line of printable characters is UTF-8
pub text_is_utf8 : (line : List ℕ) → is_text line ≡ true → IsUtf8 line
text_is_utf8 line h = IsUtf8-from_ascii line (all_ascii line h)
