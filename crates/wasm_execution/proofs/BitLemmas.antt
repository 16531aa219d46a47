-- How many bits are set, counted in all digits of a number and in those of a width; numbers that fit a width are kept.
use Rattle.std.proofs.Common.{◌≡◌, ℕ, zero, suc, ◌+◌, ◌/◌, ◌%◌, ◌^◌, ◌<◌, Some, sym, ap, ◌∙◌, arith}
use Rattle.std.specs.Int.{Width}
use Rattle.std.specs.Int.Count.{ones, ones_step, ones-le}
use Rattle.std.proofs.Math.Nat.{pow-suc, mod-eq_of_lt}
use mir.Val.{bits}
use Rattle.wasm_execution.specs.Integer.{ones_in}
use Rattle.wasm_execution.specs.Computed.{kept}

pub ones_are : (k n : ℕ) → n < 2 ^ k → ones n ≡ ones_in k n
ones_are zero n h = let l = ones-le 0 n h in omega arith
ones_are (suc k) n h =
    let p = pow-suc 2 k in
    let l : n / 2 < 2 ^ k = omega arith in
    ones_step n ∙ ap (λ m. n % 2 + m) (ones_are k (n / 2) l)

pub keeps : (w : Width) (n : ℕ) → n < 2 ^ bits w → Some n ≡ kept w (Some n)
keeps w n h = ap (λ m. Some m) (sym (mod-eq_of_lt h))
