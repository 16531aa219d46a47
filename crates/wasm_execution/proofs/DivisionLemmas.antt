-- The quotient of signed numbers, where it fits: the divisor isn't 0, and it isn't the least number divided by -1.
use Rattle.std.proofs.Common.{◌≡◌, ℕ, zero, suc, ◌-◌, ◌^◌, ◌<◌, Bool, true, false, Some, ℤ, pos, refl, ap, ap₂, ◌∙◌, subst, arith}
use Rattle.std.specs.Prelude.{◌==◌, int_div, FitsSigned}
use Rattle.std.specs.Int.{Width, cast_signed, cast_unsigned, CanDivide}
use Rattle.std.proofs.lemmas.Bool.{eqb-true}
use Rattle.std.proofs.lemmas.Int.{of_z-to_z}
use Rattle.std.proofs.Math.Nat.{lt_irrefl}
use mir.Val.{bits, hbits}
use Rattle.wasm_execution.specs.Integer.{div_s, overflows, unless_zero, binary_value}
use Rattle.wasm_execution.specs.Computed.{kept}
use Rattle.wasm_execution.proofs.BitLemmas.{keeps}

-- the quotient of the least number and -1, of w32 and of w64
abbrev pub IsPastLargest : Width → Type 0
IsPastLargest w = int_div (cast_signed w (2 ^ (bits w - 1))) (cast_signed w (2 ^ bits w - 1)) ≡ pos (2 ^ hbits w)

no_overflow : (w : Width) (n m : ℕ) → IsPastLargest w → FitsSigned w (int_div (cast_signed w n) (cast_signed w m)) → overflows w n m ≡ false
no_overflow w n m past h = go (n == 2 ^ (bits w - 1)) (m == 2 ^ bits w - 1) refl refl
  where
    go : (a b : Bool) → (n == 2 ^ (bits w - 1)) ≡ a → (m == 2 ^ bits w - 1) ≡ b → overflows w n m ≡ false
    go false b p q = rw p refl
    go true false p q = rw (p, q) refl
    go true true p q =
        let e : int_div (cast_signed w n) (cast_signed w m) ≡ pos (2 ^ hbits w) =
        ap₂ (λ x y. int_div (cast_signed w x) (cast_signed w y)) (eqb-true n (2 ^ (bits w - 1)) p) (eqb-true m (2 ^ bits w - 1) q) ∙ past in
        absurd (lt_irrefl (2 ^ hbits w) (subst (FitsSigned w) e h).sfits)

not_zero : (m n r : ℕ) → 0 < m → r ≡ n → Some r ≡ unless_zero m n
not_zero zero n r l e = absurd (omega arith)
not_zero (suc d) n r l e = ap (λ k. Some k) e

pub divided : (w : Width) (n m r : ℕ) (x y q : ℤ) → IsPastLargest w → m < 2 ^ bits w → r < 2 ^ bits w → x ≡ cast_signed w n → y ≡ cast_signed w m →
    CanDivide w x y × (q ≡ int_div x y) → r ≡ cast_unsigned w q → Some r ≡ kept w (binary_value w div_s n m)
divided w n m r x y q past l lr hx hy h e =
    let fits : FitsSigned w (int_div (cast_signed w n) (cast_signed w m)) = rw (← hx, ← hy) h.0.1 in
    let positive : 0 < m = subst (λ k. 0 < k) (ap (cast_unsigned w) hy ∙ of_z-to_z w m l) h.0.0 in
    let value : r ≡ cast_unsigned w (int_div (cast_signed w n) (cast_signed w m)) =
    e ∙ (ap (cast_unsigned w) h.1 ∙ ap₂ (λ a b. cast_unsigned w (int_div a b)) hx hy) in
    keeps w r lr ∙
    ap (kept w)
    (not_zero m (cast_unsigned w (int_div (cast_signed w n) (cast_signed w m))) r positive value ∙ rw (no_overflow w n m past fits) refl)
