-- What is written of a byte to the base 16.
use Rattle.std.proofs.Common.{◌≡◌, ℕ, ◌^◌, ◌<◌, ◌-◌, [], false, sym}
use Rattle.std.specs.Fmt.{digits, format_spec, padded_integral}
use Rattle.std.proofs.lemmas.Fmt.{hex_byte}
use Rattle.module_rewrites.specs.OperatorCode.{two_digits}

pub two_digits_are : (byte : ℕ) → byte < 256 → two_digits byte ≡ padded_integral (format_spec 32 0 4 2 (2 ^ 64 - 1)) false [] (digits 16 false byte)
unfolding two_digits
two_digits_are byte small = sym (hex_byte false byte small)
