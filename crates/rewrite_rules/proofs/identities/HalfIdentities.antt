-- Halves of numbers with sign, rounded to 0, as shifts of what is one more below 0.
use Rattle.std.proofs.Common.{◌≡◌, ℕ, zero, suc, ◌+◌, ◌-◌, ◌/◌, ◌%◌, ◌^◌, ◌<◌, ◌≤◌, Bool, true, false, refl, sym, ap, ◌∙◌, arith}
use Rattle.std.specs.Prelude.{pos, negsuc, neg_ℤ, nat_lt, int_div, ◌==◌}
use Rattle.std.specs.Int.{Width, cast_signed, cast_unsigned, int_shr, w32, w64}
use Rattle.std.specs.Int.Signed.{shr_z}
use Rattle.std.proofs.lemmas.Bool.{lt-ltb, le-ltb, ltb-true, ltb-false}
use Rattle.std.proofs.Math.Nat.{mod-eq_of_lt, mod_self, zero-mod}
use mir.Val.{bits, sel}
use Rattle.wasm_execution.specs.declared.integer.IntegerType.TheVariants as integer
use Rattle.rewrite_rules.specs.declared.table.integers.TheConstants.{HALVES}
use Rattle.rewrite_rules.specs.Line.{IsRight}
use Rattle.rewrite_rules.specs.Table.{rows_of}
use Rattle.rewrite_rules.proofs.identities.Words as line
use Rattle.rewrite_rules.proofs.identities.ExtensionNumbers.{signed}
use Rattle.rewrite_rules.proofs.identities.NeutralIdentities.{not_large}
use Rattle.rewrite_rules.proofs.identities.RowLemmas.{AtRows, ◌▸◌}
use Rattle.rewrite_rules.proofs.identities.WidthLemmas.{ok}

-- ---- numbers

-- of `M` numbers, those from `H` on are below 0
half_is : (w : Width) (H n : ℕ) → H + H ≡ 2 ^ bits w → n < 2 ^ bits w → (n < H → n / H ≡ 0) → (H ≤ n → n / H ≡ 1) →
    cast_unsigned w (int_div (signed H (2 ^ bits w) n) (pos 2)) % 2 ^ bits w
    ≡ cast_unsigned w (shr_z (signed H (2 ^ bits w) ((n + n / H % 2 ^ bits w) % 2 ^ bits w)) 2) % 2 ^ bits w
unfolding signed
half_is w H n both l low high = go (nat_lt n H) refl
  where
    -- a number as the sum, and its sign
    at : (s : ℕ) (b : Bool) → (n + n / H % 2 ^ bits w) % 2 ^ bits w ≡ s → nat_lt s H ≡ b →
        cast_unsigned w (shr_z (signed H (2 ^ bits w) ((n + n / H % 2 ^ bits w) % 2 ^ bits w)) 2) % 2 ^ bits w
        ≡ cast_unsigned w (shr_z (sel b (pos s) (negsuc (2 ^ bits w - suc s))) 2) % 2 ^ bits w
    at s b e f =
        ap (λ k. cast_unsigned w (shr_z (signed H (2 ^ bits w) k) 2) % 2 ^ bits w) e
        ∙ ap (λ c. cast_unsigned w (shr_z (sel c (pos s) (negsuc (2 ^ bits w - suc s))) 2) % 2 ^ bits w) f

    one_more : H ≤ n → (n + n / H % 2 ^ bits w) % 2 ^ bits w ≡ (n + 1) % 2 ^ bits w
    one_more k = ap (λ q. (n + q % 2 ^ bits w) % 2 ^ bits w) (high k) ∙ ap (λ q. (n + q) % 2 ^ bits w) (mod-eq_of_lt (omega arith))

    below : H ≤ n → (m : ℕ) → 2 ^ bits w - suc n ≡ m →
        cast_unsigned w (int_div (negsuc m) (pos 2)) % 2 ^ bits w
        ≡ cast_unsigned w (shr_z (signed H (2 ^ bits w) ((n + n / H % 2 ^ bits w) % 2 ^ bits w)) 2) % 2 ^ bits w
    below k zero e =
        let whole : n + 1 ≡ 2 ^ bits w = omega arith in
        sym (at 0 true (one_more k ∙ (ap (λ i. i % 2 ^ bits w) whole ∙ mod_self (2 ^ bits w))) (lt-ltb 0 H (omega arith)))
    below k (suc m) e =
        let more : suc (suc m) / 2 ≡ suc (m / 2) = omega arith in
        let back : 2 ^ bits w - suc (n + 1) ≡ m = omega arith in
        ap (λ q. cast_unsigned w (neg_ℤ (pos q)) % 2 ^ bits w) more
        ∙ sym (at (n + 1) false (one_more k ∙ mod-eq_of_lt (omega arith)) (le-ltb (n + 1) H (omega arith))
        ∙ ap (λ i. (2 ^ bits w - suc (i / 2)) % 2 ^ bits w) back)

    go : (b : Bool) → nat_lt n H ≡ b →
        cast_unsigned w (int_div (sel b (pos n) (negsuc (2 ^ bits w - suc n))) (pos 2)) % 2 ^ bits w
        ≡ cast_unsigned w (shr_z (signed H (2 ^ bits w) ((n + n / H % 2 ^ bits w) % 2 ^ bits w)) 2) % 2 ^ bits w
    go true e =
        let same : n + 0 ≡ n = omega arith in
        sym (at n true (ap (λ q. (n + q % 2 ^ bits w) % 2 ^ bits w) (low (ltb-true n H e)) ∙ (ap (λ q. (n + q) % 2 ^ bits w) (zero-mod (2 ^ bits w))
        ∙ (ap (λ i. i % 2 ^ bits w) same ∙ mod-eq_of_lt l))) e)
    go false e = below (ltb-false n H e) (2 ^ bits w - suc n) refl

pub half_32 : (n : ℕ) → n < 2 ^ 32 →
    cast_unsigned w32 (int_div (cast_signed w32 n) (pos 2)) % 2 ^ 32
    ≡ cast_unsigned w32 (int_shr (cast_signed w32 ((n + n / 2 ^ 31 % 2 ^ 32) % 2 ^ 32)) 1) % 2 ^ 32
unfolding signed
half_32 n l = half_is w32 (2 ^ 31) n refl l (λ k. omega arith) (λ k. omega arith)

half_64 : (n : ℕ) → n < 2 ^ 64 →
    cast_unsigned w64 (int_div (cast_signed w64 n) (pos 2)) % 2 ^ 64
    ≡ cast_unsigned w64 (int_shr (cast_signed w64 ((n + n / 2 ^ 63 % 2 ^ 64) % 2 ^ 64)) 1) % 2 ^ 64
unfolding signed
half_64 n l = half_is w64 (2 ^ 63) n refl l (λ k. omega arith) (λ k. omega arith)

-- ---- lines

half_of_32 : IsRight (line.half integer.I32 31)
half_of_32 h c us vs a e = not_large integer.I32 (h 0 == 2 ^ 31) _ _ ∙ ap ok (half_32 (h 0) (a 0))

half_of_64 : IsRight (line.half integer.I64 63)
half_of_64 h c us vs a e = not_large integer.I64 (h 0 == 2 ^ 63) _ _ ∙ ap ok (half_64 (h 0) (a 0))

-- ---- rows

pub halves_right : AtRows IsRight (rows_of HALVES)
halves_right =
    half_of_32
    ▸ half_of_64
    ▸ (λ h c us vs a e. sym (half_of_32 h c vs us a e))
    ▸ (λ h c us vs a e. sym (half_of_64 h c vs us a e))
    ▸ tt
