use Rattle.std.proofs.Common.{◌≡◌, take}
use Rattle.std.specs.List.{list_all}
use Rattle.hex.specs.Hex.{is_hex_digit}
use Rattle.peephole_script.proofs.hexadecimal.is_digits.Given as goal

-- whether the bytes so far are digits
abbrev pub invariant-loop-c : goal.invariant-loop-c
invariant-loop-c l = l.digits ≡ list_all is_hex_digit (take l.c-index l.text)
