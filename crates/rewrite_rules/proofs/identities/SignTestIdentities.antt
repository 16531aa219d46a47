-- The sign of a number as a shift, and numbers above 0.
use Rattle.std.proofs.Common.{◌≡◌, ℕ, zero, suc, ◌+◌, ◌-◌, ◌/◌, ◌%◌, ◌^◌, ◌<◌, ◌≤◌, Bool, true, false, refl, sym, ap, ◌∙◌, arith}
use Rattle.std.specs.Prelude.{pos, negsuc, ◌==◌, not, nat_lt, int_lt, if◌then◌else◌}
use Rattle.std.specs.Int.{Width, cast_signed, cast_unsigned, int_shr, w32, w64}
use Rattle.std.specs.Int.Signed.{shr_z}
use Rattle.std.proofs.lemmas.Bool.{lt-ltb, le-ltb, ltb-true, ltb-false, ne_eqb}
use mir.Val.{bits, sel}
use Rattle.wasm_types.specs.declared.types.PrimitiveTypeInfo.TheVariants.{I32, I64}
use Rattle.wasm_execution.specs.declared.integer.IntegerType.{IntegerType}
use Rattle.rewrite_rules.specs.declared.table.integers.TheConstants.{SIGN_TESTS}
use Rattle.rewrite_rules.specs.Line.{IsRight}
use Rattle.rewrite_rules.specs.Table.{rows_of}
use Rattle.rewrite_rules.proofs.identities.Words as line
use Rattle.rewrite_rules.proofs.identities.ExtensionNumbers.{signed}
use Rattle.rewrite_rules.proofs.identities.LaneMoveIdentities.{Moves, onward, homeward}
use Rattle.rewrite_rules.proofs.identities.RowLemmas.{AtRows, ◌▸◌, turned}
use Rattle.rewrite_rules.proofs.identities.WidthLemmas.{zero_low, truth}

-- ---- below 0

-- whether a number is, by its highest digit
sign_is : (H A n : ℕ) → (n < H → n / H ≡ 0) → (H ≤ n → n / H ≡ 1) → (if int_lt (signed H A n) (pos 0) then 1 else 0) ≡ n / H
unfolding signed
sign_is H A n low high = go (nat_lt n H) refl
  where
    go : (b : Bool) → nat_lt n H ≡ b → (if int_lt (sel b (pos n) (negsuc (A - suc n))) (pos 0) then 1 else 0) ≡ n / H
    go true e = ap (λ c. if c then 1 else 0) (le-ltb n 0 (omega arith)) ∙ sym (low (ltb-true n H e))
    go false e = sym (high (ltb-false n H e))

pub sign_32_is : (n : ℕ) → n < 2 ^ 32 → (if int_lt (cast_signed w32 n) (pos 0) then 1 else 0) % 2 ^ 32 ≡ n / 2 ^ 31 % 2 ^ 32
unfolding signed
sign_32_is n l = ap (λ m. m % 2 ^ 32) (sign_is (2 ^ 31) (2 ^ 32) n (λ k. omega arith) (λ k. omega arith))

sign_64_is : (n : ℕ) → n < 2 ^ 64 → (if int_lt (cast_signed w64 n) (pos 0) then 1 else 0) % 2 ^ 32 ≡ n / 2 ^ 63 % 2 ^ 64 % 2 ^ 32
unfolding signed
sign_64_is n l =
    let narrow : n / 2 ^ 63 % 2 ^ 32 ≡ n / 2 ^ 63 % 2 ^ 64 % 2 ^ 32 = omega arith in
    ap (λ m. m % 2 ^ 32) (sign_is (2 ^ 63) (2 ^ 64) n (λ k. omega arith) (λ k. omega arith)) ∙ narrow

abbrev sign_32 : Moves I32
sign_32 = record {
  left = λ n. (if int_lt (cast_signed w32 n) (pos 0) then 1 else 0) % 2 ^ 32;
  right = λ n. n / 2 ^ 31 % 2 ^ 32;
  same = sign_32_is;
}

abbrev sign_64 : Moves I64
sign_64 = record {
  left = λ n. (if int_lt (cast_signed w64 n) (pos 0) then 1 else 0) % 2 ^ 32;
  right = λ n. n / 2 ^ 63 % 2 ^ 64 % 2 ^ 32;
  same = sign_64_is;
}

-- ---- the highest digit in all places

-- of `M` numbers; the last two are what 0 and -1 are
spread_is : (w : Width) (H n : ℕ) → (n < H → n / H ≡ 0) → (H ≤ n → (n / H ≡ 1) × ((2 ^ bits w - suc n) / H ≡ 0)) →
    0 % 2 ^ bits w ≡ (0 + (2 ^ bits w - 0 % 2 ^ bits w)) % 2 ^ bits w →
    (2 ^ bits w - 1) % 2 ^ bits w ≡ (0 + (2 ^ bits w - 1 % 2 ^ bits w)) % 2 ^ bits w →
    cast_unsigned w (shr_z (signed H (2 ^ bits w) n) H) % 2 ^ bits w ≡ (0 + (2 ^ bits w - n / H % 2 ^ bits w)) % 2 ^ bits w
unfolding signed
spread_is w H n low high none all = go (nat_lt n H) refl
  where
    at : (q r : ℕ) → q ≡ r → (0 + (2 ^ bits w - r % 2 ^ bits w)) % 2 ^ bits w ≡ (0 + (2 ^ bits w - q % 2 ^ bits w)) % 2 ^ bits w
    at q r e = sym (ap (λ i. (0 + (2 ^ bits w - i % 2 ^ bits w)) % 2 ^ bits w) e)

    go : (b : Bool) → nat_lt n H ≡ b →
        cast_unsigned w (shr_z (sel b (pos n) (negsuc (2 ^ bits w - suc n))) H) % 2 ^ bits w ≡ (0 + (2 ^ bits w - n / H % 2 ^ bits w)) % 2 ^ bits w
    go true e = let q = low (ltb-true n H e) in ap (λ i. i % 2 ^ bits w) q ∙ (none ∙ at (n / H) 0 q)
    go false e =
        let (q, r) = high (ltb-false n H e) in
        ap (λ i. (2 ^ bits w - suc i) % 2 ^ bits w) r ∙ (all ∙ at (n / H) 1 q)

pub spread_32_is : (n : ℕ) → n < 2 ^ 32 → cast_unsigned w32 (int_shr (cast_signed w32 n) 31) % 2 ^ 32 ≡ (0 + (2 ^ 32 - n / 2 ^ 31 % 2 ^ 32)) % 2 ^ 32
unfolding signed
spread_32_is n l = spread_is w32 (2 ^ 31) n (λ k. omega arith) (λ k. (omega arith, omega arith)) refl refl

spread_64_is : (n : ℕ) → n < 2 ^ 64 → cast_unsigned w64 (int_shr (cast_signed w64 n) 63) % 2 ^ 64 ≡ (0 + (2 ^ 64 - n / 2 ^ 63 % 2 ^ 64)) % 2 ^ 64
unfolding signed
spread_64_is n l = spread_is w64 (2 ^ 63) n (λ k. omega arith) (λ k. (omega arith, omega arith)) refl refl

abbrev spread_32 : Moves I32
spread_32 = record {
  left = λ n. cast_unsigned w32 (int_shr (cast_signed w32 n) 31) % 2 ^ 32;
  right = λ n. (0 + (2 ^ 32 - n / 2 ^ 31 % 2 ^ 32)) % 2 ^ 32;
  same = spread_32_is;
}

abbrev spread_64 : Moves I64
spread_64 = record {
  left = λ n. cast_unsigned w64 (int_shr (cast_signed w64 n) 63) % 2 ^ 64;
  right = λ n. (0 + (2 ^ 64 - n / 2 ^ 63 % 2 ^ 64)) % 2 ^ 64;
  same = spread_64_is;
}

-- ---- above 0

above_zero_is : (n : ℕ) → nat_lt 0 n ≡ not (n == 0)
above_zero_is zero = refl
above_zero_is (suc n) = lt-ltb 0 (suc n) (omega arith) ∙ sym (ap not (ne_eqb (suc n) 0 (λ z. absurd (omega arith))))

above_zero : (t : IntegerType) → IsRight (line.above_zero t)
above_zero t h c us vs a e =
    ap (λ k. truth (nat_lt k (h 0))) (zero_low t) ∙ (ap truth (above_zero_is (h 0)) ∙ ap (λ k. truth (not (h 0 == k))) (sym (zero_low t)))

-- ---- rows

pub sign_tests_right : AtRows IsRight (rows_of SIGN_TESTS)
sign_tests_right =
    onward I32 sign_32
    ▸ homeward I32 sign_32
    ▸ onward I64 sign_64
    ▸ homeward I64 sign_64
    ▸ onward I32 spread_32
    ▸ onward I64 spread_64
    ▸ homeward I32 spread_32
    ▸ homeward I64 spread_64
    ▸ above_zero
    ▸ turned line.above_zero above_zero
    ▸ tt
