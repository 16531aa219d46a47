-- The rounded product of numbers with 15 bits behind the point is never the least number.
use Rattle.std.proofs.Common.{◌≡◌, ℕ, ℤ, zero, suc, ◌-◌, ◌*◌, ◌%◌, ◌^◌, ◌<◌, ◌≤◌, Bool, true, false, refl, ap, ◌∙◌, arith, FitsSigned}
use Rattle.std.specs.Prelude.{pos, negsuc, neg_ℤ, ◌+ℤ◌, ◌*ℤ◌, nat_lt, int_lt, if◌then◌else◌}
use Rattle.std.specs.Int.{w16, cast_signed, cast_unsigned, int_shr, saturate_signed}
use Rattle.std.proofs.lemmas.Bool.{le-ltb, ltb-true, ltb-false}
use Rattle.std.proofs.lemmas.Int.{to_z-of_z}
use Rattle.std.proofs.lemmas.Nat.{pow_pos, mul-le, div_below}
use Rattle.std.proofs.Math.Nat.{mod-eq_of_lt}
use mir.Val.{sel}
use Rattle.wasm_execution.specs.Conversions.{q15_product}
use Rattle.wasm_execution.specs.ExactRow.{halves_wide, signed_lt}

-- how far the number is below 0
abbrev depth : ℤ → ℕ
depth (pos n) = 0
depth (negsuc n) = suc n

depth_of_negative : (n : ℕ) → depth (neg_ℤ (pos n)) ≡ n
depth_of_negative zero = refl
depth_of_negative (suc n) = refl

-- ---- products

signed_fits : (n : ℕ) → n < 2 ^ 16 → FitsSigned w16 (cast_signed w16 n)
signed_fits n l = go (nat_lt n (2 ^ 15)) refl
  where
    go : (b : Bool) → nat_lt n (2 ^ 15) ≡ b → FitsSigned w16 (sel b (pos n) (negsuc (2 ^ 16 - suc n)))
    go true e = record { sfits = ltb-true n (2 ^ 15) e }
    go false e = let k = ltb-false n (2 ^ 15) e in record { sfits = omega arith }

-- the least one is that of the least number and the greatest one
product_depth : (a b : ℤ) → FitsSigned w16 a → FitsSigned w16 b → depth (a *ℤ b) ≤ 2 ^ 30 - 2 ^ 15
product_depth (pos a) (pos b) f g = omega arith
product_depth (pos a) (negsuc b) f g =
    let h = f.sfits in
    let l = g.sfits in
    let k = mul-le a (suc b) (2 ^ 15 - 1) (2 ^ 15) (omega arith) (omega arith) in
    let e = depth_of_negative (a * suc b) in
    omega arith
product_depth (negsuc a) (pos b) f g =
    let h = f.sfits in
    let l = g.sfits in
    let k = mul-le (suc a) b (2 ^ 15) (2 ^ 15 - 1) (omega arith) (omega arith) in
    let e = depth_of_negative (suc a * b) in
    omega arith
product_depth (negsuc a) (negsuc b) f g = omega arith

-- ---- rounded

raised_depth : (z : ℤ) (k : ℕ) → depth (z +ℤ pos k) ≤ depth z - k
raised_depth (pos n) k = omega arith
raised_depth (negsuc n) k = go (nat_lt k (suc n)) refl
  where
    go : (b : Bool) → nat_lt k (suc n) ≡ b → depth (if b then negsuc (suc n - suc k) else pos (k - suc n)) ≤ suc n - k
    go true e = let l = ltb-true k (suc n) e in omega arith
    go false e = omega arith

shifted_depth : (z : ℤ) (m : ℕ) → depth z ≤ m * 2 ^ 15 → depth (int_shr z 15) ≤ m
shifted_depth (pos n) m l = omega arith
shifted_depth (negsuc n) m l = div_below n (2 ^ 15) m (pow_pos 15) l

saturated_depth : (z : ℤ) → depth (saturate_signed w16 z) ≤ depth z
saturated_depth (pos n) = omega arith
saturated_depth (negsuc n) = omega arith

-- ---- read back

saturated_fits : (z : ℤ) → FitsSigned w16 (saturate_signed w16 z)
saturated_fits (pos n) = record { sfits = omega arith }
saturated_fits (negsuc n) = record { sfits = omega arith }

bits_below : (z : ℤ) → FitsSigned w16 z → cast_unsigned w16 z < 2 ^ 16
bits_below (pos n) f = let l = f.sfits in omega arith
bits_below (negsuc n) f = omega arith

read_back : (z : ℤ) → FitsSigned w16 z → cast_signed w16 (cast_unsigned w16 z % 2 ^ 16) ≡ z
read_back z f = ap (cast_signed w16) (mod-eq_of_lt (bits_below z f)) ∙ to_z-of_z w16 z f

-- ---- the least but one

not_below : (z : ℤ) → depth z ≤ 2 ^ 15 - 1 → int_lt z (negsuc (2 ^ 15 - 2)) ≡ false
not_below (pos n) l = refl
not_below (negsuc n) l = le-ltb (2 ^ 15 - 2) n (omega arith)

pub never_least : (n m : ℕ) → n < 2 ^ 16 → m < 2 ^ 16 → signed_lt halves_wide (q15_product n m % 2 ^ 16) (0x8001 % 2 ^ 16) ≡ false
never_least n m h l =
    let a = cast_signed w16 n in
    let b = cast_signed w16 m in
    let r = int_shr (a *ℤ b +ℤ pos (2 ^ 14)) 15 in
    let product = product_depth a b (signed_fits n h) (signed_fits m l) in
    let raised = raised_depth (a *ℤ b) (2 ^ 14) in
    let within : depth (a *ℤ b +ℤ pos (2 ^ 14)) ≤ (2 ^ 15 - 1) * 2 ^ 15 = omega arith in
    let shifted = shifted_depth (a *ℤ b +ℤ pos (2 ^ 14)) (2 ^ 15 - 1) within in
    let saturated = saturated_depth r in
    ap (λ z. int_lt z (negsuc (2 ^ 15 - 2))) (read_back (saturate_signed w16 r) (saturated_fits r)) ∙ not_below (saturate_signed w16 r) (omega arith)
