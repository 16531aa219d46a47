-- Integers as floats, by wider integers that they are extended to, and without a sign.
use Rattle.std.proofs.Common.{◌≡◌, ℕ, zero, suc, ◌+◌, ◌-◌, ◌*◌, ◌/◌, ◌%◌, ◌^◌, ◌<◌, ◌≤◌, Bool, true, false, refl, sym, ap, ◌∙◌, subst, arith}
use Rattle.std.specs.Prelude.{pos, negsuc, nat_lt, nat_le, ◌==◌, if◌then◌else◌}
use Rattle.std.specs.Int.{Width, w32, w64, cast_signed, cast_unsigned}
use Rattle.std.specs.Int.Count.{count_leading_zeros}
use Rattle.std.proofs.lemmas.Bool.{lt-ltb, le-ltb, ltb-true, ltb-false, leb-true, leb-false, true≢false}
use Rattle.std.proofs.lemmas.Nat.{pow_pos, pow-add, div_below, leading_top}
use Rattle.std.proofs.Math.Nat.{mod-eq_of_lt, mod-le, mul-le-mul_right}
use mir.Val.{bits, sel}
use Rattle.wasm_code.specs.Table.{table, row_at}
use Rattle.wasm_types.specs.declared.types.PrimitiveTypeInfo.{PrimitiveTypeInfo}
use Rattle.wasm_types.specs.declared.types.PrimitiveTypeInfo.TheVariants.{I32, I64}
use Rattle.wasm_execution.specs.declared.integer.IntegerType.{IntegerType}
use Rattle.wasm_execution.specs.declared.integer.IntegerType.TheVariants as integer
use Rattle.wasm_execution.specs.Conversions.{fraction_bits, bias, rounded, bit_length, significand, convert_u, convert_s}
use Rattle.wasm_execution.specs.ExactRow.{exact_row}
use Rattle.wasm_execution.specs.Integer.{signed_into}
use Rattle.wasm_execution.specs.IntegerRow.{integer_row}
use Rattle.wasm_execution.specs.Lanes.{sign_bit, magnitude}
use Rattle.wasm_execution.specs.Values.{width_of, IsOfType}
use Rattle.rewrite_rules.specs.declared.table.floats.TheConstants.{CONVERSIONS}
use Rattle.rewrite_rules.specs.Exact.{exact_operator}
use Rattle.rewrite_rules.specs.Line.{IsRight}
use Rattle.rewrite_rules.specs.Numbers.{low}
use Rattle.rewrite_rules.specs.Table.{rows_of}
use Rattle.rewrite_rules.proofs.identities.FloatNumbers.{sign, abs_off}
use Rattle.rewrite_rules.proofs.identities.LaneMoveIdentities.{Moves, onward, homeward}
use Rattle.rewrite_rules.proofs.identities.RowLemmas.{AtRows, ◌▸◌}

-- ---- no sign

-- a number without its last bits, rounded up at most to the next power of two
rounded_le : (last k n : ℕ) → n < 2 ^ (k + last) → rounded last n ≤ 2 ^ k
rounded_le last k n l =
    go (nat_lt (2 ^ last) (n % 2 ^ last * 2 + n / 2 ^ last % 2))
    (div_below n (2 ^ last) (2 ^ k) (pow_pos last) (subst (λ m. n < m) (pow-add 2 k last) l))
  where
    go : (b : Bool) → n / 2 ^ last < 2 ^ k → n / 2 ^ last + (if b then 1 else 0) ≤ 2 ^ k
    go true h = omega arith
    go false h = omega arith

significand_le : (w : Width) (length n : ℕ) → n < 2 ^ length → significand w length n ≤ 2 ^ suc (fraction_bits w)
significand_le w length n l = go (suc (fraction_bits w))
  where
    by_length : (f : ℕ) (b : Bool) → nat_le length f ≡ b → (if b then n * 2 ^ (f - length) else rounded (length - f) n) ≤ 2 ^ f
    by_length f true e =
        let h = leb-true length f e in
        let whole : length + (f - length) ≡ f = omega arith in
        let least : n ≤ 2 ^ length = omega arith in
        subst (λ m. n * 2 ^ (f - length) ≤ m) (sym (pow-add 2 length (f - length)) ∙ ap (λ k. 2 ^ k) whole) (mul-le-mul_right (2 ^ (f - length)) least)
    by_length f false e =
        let h = leb-false length f e in
        let whole : length ≡ f + (length - f) = omega arith in
        rounded_le (length - f) f n (subst (λ k. n < 2 ^ k) whole l)

    go : (f : ℕ) → (if nat_le length f then n * 2 ^ (f - length) else rounded (length - f) n) ≤ 2 ^ f
    go f = by_length f (nat_le length f) refl

-- so many bits a number has, at most 64
within_length : (n : ℕ) → 0 < n → n < 2 ^ 64 → (bit_length n ≤ 64) × (n < 2 ^ bit_length n)
within_length n p l =
    let top = leading_top 64 n p l in
    let counted = top.1 in
    let length : 64 - count_leading_zeros 64 n ≡ suc top.0 = omega arith in
    (omega arith, subst (λ k. n < 2 ^ k) (sym length) top.3)

-- the exponent of so many bits and that fraction leave no sign
below_sign : (t : IntegerType) (length fraction : ℕ) → length ≤ 64 → fraction ≤ 2 ^ suc (fraction_bits (width_of t)) →
    (bias (width_of t) + length - 2) * 2 ^ fraction_bits (width_of t) + fraction < sign t
below_sign integer.I32 length fraction h k = omega arith
below_sign integer.I64 length fraction h k = omega arith

positive : (n : ℕ) → (n == 0) ≡ false → 0 < n
positive zero e = absurd (true≢false e)
positive (suc n) e = omega arith

converted_lt : (t : IntegerType) (n : ℕ) → n < 2 ^ 64 → convert_u (width_of t) n < sign t
converted_lt t n l = go (n == 0) refl
  where
    go : (b : Bool) → (n == 0) ≡ b →
        (if b then 0 else (bias (width_of t) + bit_length n - 2) * 2 ^ fraction_bits (width_of t) + significand (width_of t) (bit_length n) n) < sign t
    go true e = pow_pos (bits (width_of t) - 1)
    go false e =
        let h = within_length n (positive n e) l in
        let length = bit_length n in
        below_sign t length (significand (width_of t) length n) h.0 (significand_le (width_of t) length n h.1)

own_magnitude : (t : IntegerType) (n : ℕ) → n < 2 ^ 64 →
    low t (convert_u (width_of t) n) ≡ low t (magnitude (width_of t) (low t (convert_u (width_of t) n)))
own_magnitude t n l =
    let h = converted_lt t n l in
    let cut = mod-le (convert_u (width_of t) n) (2 ^ bits (width_of t)) in
    sym (abs_off t (low t (convert_u (width_of t) n)) (omega arith))

-- ---- extended numbers

converted_below : (w : Width) (n : ℕ) → n < 2 ^ 63 → convert_u w n ≡ convert_s w64 w (n % 2 ^ 64)
converted_below w n l =
    let wide : n < 2 ^ 64 = omega arith in
    sym (ap (convert_s w64 w) (mod-eq_of_lt wide)
    ∙ ap (λ b. if b then convert_u w n else sign_bit w + convert_u w (2 ^ 64 - n)) (lt-ltb n (2 ^ 63) l))

converted_signed : (w : Width) (n : ℕ) → n < 2 ^ 32 → convert_s w32 w n ≡ convert_s w64 w (signed_into w32 w64 n % 2 ^ 64)
converted_signed w n l = go (nat_lt n (2 ^ 31)) refl ∙ ap (λ m. convert_s w64 w (cast_unsigned w64 (cast_signed w32 m) % 2 ^ 64)) (sym (mod-eq_of_lt l))
  where
    go : (b : Bool) → nat_lt n (2 ^ 31) ≡ b →
        (if b then convert_u w n else sign_bit w + convert_u w (2 ^ 32 - n))
        ≡ convert_s w64 w (cast_unsigned w64 (sel b (pos n) (negsuc (2 ^ 32 - suc n))) % 2 ^ 64)
    go true e = let h = ltb-true n (2 ^ 31) e in converted_below w n (omega arith)
    go false e =
        let h = ltb-false n (2 ^ 31) e in
        let m : ℕ = 2 ^ 64 - suc (2 ^ 32 - suc n) in
        let wide : m < 2 ^ 64 = omega arith in
        let back : 2 ^ 64 - m ≡ 2 ^ 32 - n = omega arith in
        sym (ap (convert_s w64 w) (mod-eq_of_lt wide)
        ∙ (ap (λ b. if b then convert_u w m else sign_bit w + convert_u w (2 ^ 64 - m)) (le-ltb m (2 ^ 63) (omega arith))
        ∙ ap (λ k. sign_bit w + convert_u w k) back))

-- ---- lines

abbrev signed_by_signed : (t : IntegerType) → Moves I32
signed_by_signed t = record {
  left = λ n. low t (convert_s w32 (width_of t) n);
  right = λ n. low t (convert_s w64 (width_of t) (signed_into w32 w64 n % 2 ^ 64));
  same = λ n l. ap (low t) (converted_signed (width_of t) n l);
}

abbrev unsigned_by_signed : (t : IntegerType) → Moves I32
unsigned_by_signed t = record {
  left = λ n. low t (convert_u (width_of t) n);
  right = λ n. low t (convert_s w64 (width_of t) (n % 2 ^ 64));
  same = λ n l. ap (low t) (converted_below (width_of t) n (omega arith));
}

abbrev unsigned_by_unsigned : (t : IntegerType) → Moves I32
unsigned_by_unsigned t = record {
  left = λ n. low t (convert_u (width_of t) n);
  right = λ n. low t (convert_u (width_of t) (n % 2 ^ 64));
  same = λ n l. let wide : n < 2 ^ 64 = omega arith in ap (λ m. low t (convert_u (width_of t) m)) (sym (mod-eq_of_lt wide));
}

abbrev without_sign : (u : PrimitiveTypeInfo) (t : IntegerType) → ((n : ℕ) → IsOfType u n → n < 2 ^ 64) → Moves u
without_sign u t small = record {
  left = λ n. low t (convert_u (width_of t) n);
  right = λ n. low t (magnitude (width_of t) (low t (convert_u (width_of t) n)));
  same = λ n l. own_magnitude t n (small n l);
}

abbrev of_i32 : (t : IntegerType) → Moves I32
of_i32 t = without_sign I32 t (λ n l. omega arith)

abbrev of_i64 : (t : IntegerType) → Moves I64
of_i64 t = without_sign I64 t (λ n l. l)

pub conversions_right : AtRows IsRight (rows_of CONVERSIONS)
unfolding exact_operator exact_row integer_row row_at table
conversions_right =
    onward I32 (signed_by_signed integer.I32) ▸ onward I32 (unsigned_by_signed integer.I32) ▸ onward I32 (unsigned_by_unsigned integer.I32)
    ▸ onward I32 (signed_by_signed integer.I64) ▸ onward I32 (unsigned_by_signed integer.I64) ▸ onward I32 (unsigned_by_unsigned integer.I64)
    ▸ homeward I32 (signed_by_signed integer.I32) ▸ homeward I32 (unsigned_by_signed integer.I32) ▸ homeward I32 (unsigned_by_unsigned integer.I32)
    ▸ homeward I32 (signed_by_signed integer.I64) ▸ homeward I32 (unsigned_by_signed integer.I64) ▸ homeward I32 (unsigned_by_unsigned integer.I64)
    ▸ onward I32 (of_i32 integer.I32) ▸ onward I64 (of_i64 integer.I32) ▸ onward I32 (of_i32 integer.I64) ▸ onward I64 (of_i64 integer.I64)
    ▸ homeward I32 (of_i32 integer.I32) ▸ homeward I64 (of_i64 integer.I32) ▸ homeward I32 (of_i32 integer.I64) ▸ homeward I64 (of_i64 integer.I64)
    ▸ tt
