-- Lines, words and numbers of the input (this project's rules).
use Rattle.std.specs.Prelude.{ℕ, ◌^◌, ◌==◌, ◌&&◌, Bool, not, nat_le, nat_lt, List, [], ◌∷◌, length, filter, map, Option, Some, None, if◌then◌else◌}
use Rattle.std.specs.Borrow.{Bor}
use Rattle.std.specs.List.{slice_split, onto_first, list_all}
use Rattle.std.specs.Char.{is_ascii_digit}
use Rattle.std.specs.Str.Parse.{digits_value}

-- what borrowed words say
abbrev pub texts : List (Bor (List ℕ)) → List (List ℕ)
texts words = map (λ word. word.now) words

-- whether b is the byte `separator`
abbrev pub is_byte : ℕ → ℕ → Bool
is_byte separator b = b == separator

-- the lines: each ends with a line feed, and the last may lack it
abbrev pub lines_of : List ℕ → List (List ℕ)
lines_of [] = []
lines_of (b ∷ rest) = if b == 10 then [] ∷ lines_of rest else onto_first b (lines_of rest)

-- the words of a line, which spaces separate
abbrev pub words_of : List ℕ → List (List ℕ)
words_of line = filter (λ word. not (length word == 0)) (slice_split (λ b. b == 32) line)

-- whether b is a printable character of ASCII, or a space
abbrev pub is_text_byte : ℕ → Bool
is_text_byte b = nat_le 32 b && nat_le b 126

-- whether a line has such bytes alone
abbrev pub is_text : List ℕ → Bool
is_text line = list_all is_text_byte line

-- the number that a word writes: decimal digits alone, below 2^64
abbrev pub number_of : List ℕ → Option ℕ
number_of word =
    if nat_lt 0 (length word) && list_all is_ascii_digit word && nat_lt (digits_value 10 word) (2 ^ 64)
    then Some (digits_value 10 word) else None
