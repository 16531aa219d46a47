-- Which texts are digits of bytes.
use Rattle.std.proofs.Common.{◌≡◌, ℕ, true, ◌%◌, ◌*◌, ◌+◌, ◌<◌, List, length, slice_index, refl, Ok, Err, None, Some}
use Rattle.std.specs.Prelude.{Result}
use Rattle.std.specs.List.{AllPass}
use Rattle.std.specs.Result.{result_ok}
use Rattle.std.proofs.lemmas.List.Elements.{All-get_or}
use Rattle.hex.specs.Hex.{decode_of, hex_digit_value, is_hex_digit, pair_value}
use Rattle.hex.specs.declared.error.FromHexError.{FromHexError}
use Rattle.hex.proofs.HexLemmas.{decode_of-ok}

-- a digit of some
pub digit_at : (s : List ℕ) (i : ℕ) → AllPass is_hex_digit s → i < length s → is_hex_digit (slice_index s i) ≡ true
digit_at s i all below = All-get_or (λ c. is_hex_digit c ≡ true) s i 0 below all

-- the byte of two digits
pub pair_value-of : (high low i h l : ℕ) → hex_digit_value high ≡ Some h → hex_digit_value low ≡ Some l → pair_value high low i ≡ Ok (h * 16 + l)
pair_value-of high low i h l a b = rw (a, b) refl

no_bytes : (s : List ℕ) (r : Result (List ℕ) FromHexError) → decode_of s ≡ r → (length s % 2 ≡ 0 → AllPass is_hex_digit s → ⊥) → result_ok r ≡ None
no_bytes s (Ok bytes) is other = let k = decode_of-ok s bytes is in absurd (other k.0 k.1)
no_bytes s (Err e) is other = refl

-- what isn't digits two by two stands for no bytes
pub decode_of-none : (s : List ℕ) → (length s % 2 ≡ 0 → AllPass is_hex_digit s → ⊥) → result_ok (decode_of s) ≡ None
decode_of-none s other = no_bytes s (decode_of s) refl other
