-- Numbers of a width, and what is left of them.
use Rattle.std.proofs.Common.{◌≡◌, ℕ, ◌-◌, ◌%◌, ◌^◌, ◌<◌, Bool, ap, ◌∙◌, arith}
use Rattle.std.specs.Prelude.{if◌then◌else◌, Result, Ok}
use Rattle.std.specs.Int.{trailing_zeros}
use Rattle.std.proofs.lemmas.Nat.{pow_pos}
use Rattle.std.proofs.Math.Nat.{mod-eq_of_lt, mod-lt, zero-mod}
use mir.Val.{bits}
use Rattle.wasm_execution.specs.declared.integer.IntegerType.{IntegerType}
use Rattle.wasm_execution.specs.declared.integer.IntegerType.TheVariants as integer
use Rattle.wasm_execution.specs.Values.{type_of, width_of, IsOfType, Cause}
use Rattle.rewrite_rules.specs.Numbers.{low, lowest_bit}

pub small : (t : IntegerType) (n : ℕ) → IsOfType (type_of t) n → n < 2 ^ bits (width_of t)
small integer.I32 n h = h
small integer.I64 n h = h

pub low_lt : (t : IntegerType) (n : ℕ) → low t n < 2 ^ bits (width_of t)
low_lt t n = mod-lt n (pow_pos (bits (width_of t)))

pub zero_low : (t : IntegerType) → low t 0 ≡ 0
zero_low t = zero-mod (2 ^ bits (width_of t))

pub lit_low : (t : IntegerType) (n : ℕ) → n < 32 → low t n ≡ n
lit_low integer.I32 n l = mod-eq_of_lt (omega arith)
lit_low integer.I64 n l = mod-eq_of_lt (omega arith)

pub ones_low : (t : IntegerType) → low t (2 ^ bits (width_of t) - 1) ≡ 2 ^ bits (width_of t) - 1
ones_low t = let p = pow_pos (bits (width_of t)) in mod-eq_of_lt (omega arith)

pub width_positive : (t : IntegerType) → 0 < bits (width_of t)
width_positive integer.I32 = omega arith
width_positive integer.I64 = omega arith

pub place_lt : (t : IntegerType) (n : ℕ) → lowest_bit t n < bits (width_of t)
place_lt t n = mod-lt (trailing_zeros (width_of t) n) (width_positive t)

abbrev pub ok : ℕ → Result ℕ Cause
ok n = Ok n

pub same : (t : IntegerType) (k n : ℕ) → n < 2 ^ bits (width_of t) → k ≡ n → ok (low t k) ≡ ok n
same t k n l e = ap ok (ap (low t) e ∙ mod-eq_of_lt l)

-- a truth value
abbrev pub truth : Bool → Result ℕ Cause
truth b = Ok ((if b then 1 else 0) % 2 ^ 32)
