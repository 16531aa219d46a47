-- What the two sides of each line on loads and stores have in common.
use Rattle.std.proofs.Common.{◌≡◌, ℕ, ◌%◌, ◌^◌, ◌<◌, true, Some, None, refl, sym, ap, ◌∙◌, subst, arith}
use Rattle.std.specs.Int.{w8, w16, w32, w64, cast_signed, cast_unsigned}
use Rattle.std.proofs.Math.Nat.{mod-eq_of_lt, mod-mod}
use Rattle.wasm_code.specs.Table.{table, row_at}
use Rattle.wasm_types.specs.declared.types.PrimitiveTypeInfo.{PrimitiveTypeInfo}
use Rattle.wasm_execution.specs.declared.integer.IntegerType.TheVariants as integer
use Rattle.wasm_execution.specs.declared.operation.Binary.TheVariants.{And}
use Rattle.wasm_execution.specs.declared.operation.Operation.TheVariants.{WrapI64, ExtendI32S, ExtendI32U, Extend8S, Extend16S, Extend32S, Binary}
use Rattle.wasm_execution.specs.ExactRow.{Loading, bytes_wide, halves_wide, words_wide, doubles_wide, exact_row}
use Rattle.wasm_execution.specs.IntegerRow.{integer_row}
use Rattle.wasm_execution.specs.Lanes.{splat}
use Rattle.wasm_execution.specs.Values.{of_bits, IsOfType, Context, bytes_of_number}
use Rattle.rewrite_rules.specs.declared.access.AccessSide.{AccessSide}
use Rattle.rewrite_rules.specs.declared.access.Conversion.{Conversion}
use Rattle.rewrite_rules.specs.declared.access.Conversion.TheVariants.{Nothing, By, With}
use Rattle.rewrite_rules.specs.declared.pattern.Operator.TheVariants.{Whole, Exact}
use Rattle.rewrite_rules.specs.Exact.{exact_operator}
use Rattle.rewrite_rules.proofs.beside.AccessLemmas.{IsLoadRow, IsStoreRow, Follows, nothing_follows, conversion_follows}
use Rattle.rewrite_rules.proofs.beside.StoreLemmas.{Stores, bare_stores, conversion_stores}
use Rattle.rewrite_rules.proofs.beside.AccessNumbers.{wide_enough, low_kept, masked_kept, low_bytes_of, masked_bytes, extended_8}
use Rattle.rewrite_rules.proofs.beside.AccessNumbers.{extended_16, extended_8_wide, extended_16_wide, extended_32_wide, again_8, again_16}
use Rattle.rewrite_rules.proofs.beside.AccessNumbers.{upper_cleared}
use Rattle.rewrite_rules.proofs.beside.AccessParts.{i32_load, i64_load, f32_load, f64_load, i32_load8_s, i32_load8_u, i32_load16_s, i32_load16_u, i64_load8_s}
use Rattle.rewrite_rules.proofs.beside.AccessParts.{i64_load8_u, i64_load16_s, i64_load16_u, i64_load32_s, i64_load32_u, v128_load8_splat, v128_load16_splat}
use Rattle.rewrite_rules.proofs.beside.AccessParts.{v128_load32_splat, v128_load64_splat, v128_load64_zero, i32_store, i64_store, f32_store, f64_store}
use Rattle.rewrite_rules.proofs.beside.AccessParts.{i32_store8, i32_store16, i64_store8, i64_store16, i64_store32, ConvertsAlways, bits_of_f32, bits_of_f64}
use Rattle.rewrite_rules.proofs.beside.AccessParts.{f32_of_bits, f64_of_bits, bytes_splat, halves_splat, words_splat, doubles_splat, wrap, extend_u, extend_s}
use Rattle.rewrite_rules.proofs.beside.AccessParts.{extend8, extend16, extend8_wide, extend16_wide, extend32_wide, mask, upper_zero}

-- ---- pairs

-- What two loads have in common: as many bytes, and the value that is made of them.
pub record LoadPair (left right : AccessSide) : Type 0 where
  pub k : Loading
  pub l : Loading
  pub t : PrimitiveTypeInfo
  pub r : PrimitiveTypeInfo
  pub u : PrimitiveTypeInfo
  pub f : ℕ → ℕ
  pub g : ℕ → ℕ
  pub is : IsLoadRow left.row k t
  pub its : IsLoadRow right.row l r
  pub next : (context : Context) (exact : context.info.exact ≡ true) → Follows context exact left.conversion t u f
  pub behind : (context : Context) (exact : context.info.exact ≡ true) → Follows context exact right.conversion r u g
  pub counts : l.count ≡ k.count
  pub same : (n : ℕ) → n < 256 ^ k.count → f (of_bits t (k.extended n)) ≡ g (of_bits r (l.extended n))

-- and two stores: the type of their values, and the bytes that are made of these
pub record StorePair (left right : AccessSide) : Type 0 where
  pub count : ℕ
  pub t : PrimitiveTypeInfo
  pub f : ℕ → ℕ
  pub g : ℕ → ℕ
  pub is : (context : Context) (exact : context.info.exact ≡ true) → Stores context exact left count t f
  pub its : (context : Context) (exact : context.info.exact ≡ true) → Stores context exact right count t g
  pub same : (n : ℕ) → IsOfType t n → bytes_of_number count (f n) ≡ bytes_of_number count (g n)

pub turned_loads : {a b : AccessSide} → LoadPair a b → LoadPair b a
turned_loads p = record {
  k = p.l;
  l = p.k;
  t = p.r;
  r = p.t;
  u = p.u;
  f = p.g;
  g = p.f;
  is = p.its;
  its = p.is;
  next = p.behind;
  behind = p.next;
  counts = sym p.counts;
  same = λ n h. sym (p.same n (subst (λ c. n < 256 ^ c) p.counts h));
}

pub turned_stores : {a b : AccessSide} → StorePair a b → StorePair b a
turned_stores p = record { count = p.count; t = p.t; f = p.g; g = p.f; is = p.its; its = p.is; same = λ n h. sym (p.same n h) }

abbrev pub bare : ℕ → AccessSide
bare row = record { row = row; conversion = Nothing }

-- a load, and another one with a conversion
converted_load : {row other : ℕ} {k l : Loading} {t r : PrimitiveTypeInfo} {c : Conversion} {f : ℕ → ℕ} → IsLoadRow row k t → IsLoadRow other l r →
    ConvertsAlways c r t f → l.count ≡ k.count → ((n : ℕ) → n < 256 ^ k.count → of_bits t (k.extended n) ≡ f (of_bits r (l.extended n))) →
    LoadPair (bare row) (record { row = other; conversion = c })
converted_load {k = k} {l = l} {t = t} {r = r} {c = c} {f = f} is its converts counts same = record {
  k = k;
  l = l;
  t = t;
  r = r;
  u = t;
  f = λ n. n;
  g = f;
  is = is;
  its = its;
  next = λ context exact. nothing_follows context exact t;
  behind = λ context exact. conversion_follows context exact c r t f (converts context exact);
  counts = counts;
  same = same;
}

-- a store, and a conversion and another one
converted_store : {row other count : ℕ} {t u : PrimitiveTypeInfo} {c : Conversion} {f : ℕ → ℕ} → IsStoreRow row count t → IsStoreRow other count u →
    ConvertsAlways c t u f → ((n : ℕ) → IsOfType t n → bytes_of_number count n ≡ bytes_of_number count (f n)) →
    StorePair (bare row) (record { row = other; conversion = c })
converted_store {row = row} {other = other} {count = count} {t = t} {u = u} {c = c} {f = f} is its converts same = record {
  count = count;
  t = t;
  f = λ n. n;
  g = f;
  is = λ context exact. bare_stores context exact row count t is;
  its = λ context exact. conversion_stores context exact other count u its c t f (converts context exact);
  same = same;
}

-- one with another alignment
pub realigned_load : {row : ℕ} {k : Loading} {t : PrimitiveTypeInfo} → IsLoadRow row k t → LoadPair (bare row) (bare row)
realigned_load {k = k} {t = t} is = record {
  k = k;
  l = k;
  t = t;
  r = t;
  u = t;
  f = λ n. n;
  g = λ n. n;
  is = is;
  its = is;
  next = λ context exact. nothing_follows context exact t;
  behind = λ context exact. nothing_follows context exact t;
  counts = refl;
  same = λ n h. refl;
}

pub realigned_store : {row count : ℕ} {t : PrimitiveTypeInfo} → IsStoreRow row count t → StorePair (bare row) (bare row)
realigned_store {row = row} {count = count} {t = t} is = record {
  count = count;
  t = t;
  f = λ n. n;
  g = λ n. n;
  is = λ context exact. bare_stores context exact row count t is;
  its = λ context exact. bare_stores context exact row count t is;
  same = λ n h. refl;
}

-- ---- floats by their bits
pub f32_load_by_bits : LoadPair (bare 13) (record { row = 11; conversion = By (Exact 161 None) })
unfolding exact_operator exact_row integer_row row_at table
f32_load_by_bits = converted_load f32_load i32_load f32_of_bits refl (λ n h. sym (mod-mod n (2 ^ 32)))

pub f64_load_by_bits : LoadPair (bare 14) (record { row = 12; conversion = By (Exact 162 None) })
unfolding exact_operator exact_row integer_row row_at table
f64_load_by_bits = converted_load f64_load i64_load f64_of_bits refl (λ n h. sym (mod-mod n (2 ^ 64)))

pub i32_load_by_float : LoadPair (bare 11) (record { row = 13; conversion = By (Exact 159 None) })
unfolding exact_operator exact_row integer_row row_at table
i32_load_by_float = converted_load i32_load f32_load bits_of_f32 refl (λ n h. sym (mod-mod n (2 ^ 32)))

pub i64_load_by_float : LoadPair (bare 12) (record { row = 14; conversion = By (Exact 160 None) })
unfolding exact_operator exact_row integer_row row_at table
i64_load_by_float = converted_load i64_load f64_load bits_of_f64 refl (λ n h. sym (mod-mod n (2 ^ 64)))

pub f32_store_by_bits : StorePair (bare 27) (record { row = 25; conversion = By (Exact 159 None) })
unfolding exact_operator exact_row integer_row row_at table
f32_store_by_bits = converted_store f32_store i32_store bits_of_f32 (λ n h. ap (bytes_of_number 4) (sym (mod-eq_of_lt h)))

pub f64_store_by_bits : StorePair (bare 28) (record { row = 26; conversion = By (Exact 160 None) })
unfolding exact_operator exact_row integer_row row_at table
f64_store_by_bits = converted_store f64_store i64_store bits_of_f64 (λ n h. ap (bytes_of_number 8) (sym (mod-eq_of_lt h)))

pub i32_store_by_float : StorePair (bare 25) (record { row = 27; conversion = By (Exact 161 None) })
unfolding exact_operator exact_row integer_row row_at table
i32_store_by_float = converted_store i32_store f32_store f32_of_bits (λ n h. ap (bytes_of_number 4) (sym (mod-eq_of_lt h)))

pub i64_store_by_float : StorePair (bare 26) (record { row = 28; conversion = By (Exact 162 None) })
unfolding exact_operator exact_row integer_row row_at table
i64_store_by_float = converted_store i64_store f64_store f64_of_bits (λ n h. ap (bytes_of_number 8) (sym (mod-eq_of_lt h)))

-- ---- one width by another

pub i64_load8_u_by_i32 : LoadPair (bare 20) (record { row = 16; conversion = By (Whole ExtendI32U) })
i64_load8_u_by_i32 = converted_load i64_load8_u i32_load8_u extend_u refl
    (λ n h. ap (λ x. x % 2 ^ 64) (sym (mod-eq_of_lt (wide_enough 8 32 n h (omega arith)))))

pub i64_load16_u_by_i32 : LoadPair (bare 22) (record { row = 18; conversion = By (Whole ExtendI32U) })
i64_load16_u_by_i32 = converted_load i64_load16_u i32_load16_u extend_u refl
    (λ n h. ap (λ x. x % 2 ^ 64) (sym (mod-eq_of_lt (wide_enough 16 32 n h (omega arith)))))

pub i64_load32_u_by_i32 : LoadPair (bare 24) (record { row = 11; conversion = By (Whole ExtendI32U) })
i64_load32_u_by_i32 = converted_load i64_load32_u i32_load extend_u refl (λ n h. ap (λ x. x % 2 ^ 64) (sym (mod-eq_of_lt h)))

pub i64_load8_s_by_i32 : LoadPair (bare 19) (record { row = 15; conversion = By (Whole ExtendI32S) })
i64_load8_s_by_i32 = converted_load i64_load8_s i32_load8_s extend_s refl (λ n h. again_8 n h)

pub i64_load16_s_by_i32 : LoadPair (bare 21) (record { row = 17; conversion = By (Whole ExtendI32S) })
i64_load16_s_by_i32 = converted_load i64_load16_s i32_load16_s extend_s refl (λ n h. again_16 n h)

pub i64_load32_s_by_i32 : LoadPair (bare 23) (record { row = 11; conversion = By (Whole ExtendI32S) })
i64_load32_s_by_i32 = converted_load i64_load32_s i32_load extend_s refl
    (λ n h. ap (λ x. cast_unsigned w64 (cast_signed w32 x) % 2 ^ 64) (sym (mod-mod n (2 ^ 32) ∙ mod-eq_of_lt h)))

pub i64_store8_by_i32 : StorePair (bare 31) (record { row = 29; conversion = By (Whole WrapI64) })
i64_store8_by_i32 = converted_store i64_store8 i32_store8 wrap (λ n h. low_bytes_of 1 32 n (omega arith))

pub i64_store16_by_i32 : StorePair (bare 32) (record { row = 30; conversion = By (Whole WrapI64) })
i64_store16_by_i32 = converted_store i64_store16 i32_store16 wrap (λ n h. low_bytes_of 2 32 n (omega arith))

pub i64_store32_by_i32 : StorePair (bare 33) (record { row = 25; conversion = By (Whole WrapI64) })
i64_store32_by_i32 = converted_store i64_store32 i32_store wrap (λ n h. low_bytes_of 4 32 n (omega arith))

pub i32_store8_by_i64 : StorePair (bare 29) (record { row = 31; conversion = By (Whole ExtendI32U) })
i32_store8_by_i64 = converted_store i32_store8 i64_store8 extend_u (λ n h. low_bytes_of 1 64 n (omega arith))

pub i32_store16_by_i64 : StorePair (bare 30) (record { row = 32; conversion = By (Whole ExtendI32U) })
i32_store16_by_i64 = converted_store i32_store16 i64_store16 extend_u (λ n h. low_bytes_of 2 64 n (omega arith))

pub i32_store_by_i64 : StorePair (bare 25) (record { row = 33; conversion = By (Whole ExtendI32U) })
i32_store_by_i64 = converted_store i32_store i64_store32 extend_u (λ n h. low_bytes_of 4 64 n (omega arith))

pub load8_splat_by_i32 : LoadPair (bare 196) (record { row = 16; conversion = By (Exact 204 None) })
unfolding exact_operator exact_row integer_row row_at table
load8_splat_by_i32 = converted_load v128_load8_splat i32_load8_u bytes_splat refl
    (λ n h. ap (λ x. splat bytes_wide x % 2 ^ 128) (sym (mod-eq_of_lt (wide_enough 8 32 n h (omega arith)))))

pub load16_splat_by_i32 : LoadPair (bare 197) (record { row = 18; conversion = By (Exact 205 None) })
unfolding exact_operator exact_row integer_row row_at table
load16_splat_by_i32 = converted_load v128_load16_splat i32_load16_u halves_splat refl
    (λ n h. ap (λ x. splat halves_wide x % 2 ^ 128) (sym (mod-eq_of_lt (wide_enough 16 32 n h (omega arith)))))

pub load32_splat_by_i32 : LoadPair (bare 198) (record { row = 11; conversion = By (Exact 206 None) })
unfolding exact_operator exact_row integer_row row_at table
load32_splat_by_i32 = converted_load v128_load32_splat i32_load words_splat refl (λ n h. ap (λ x. splat words_wide x % 2 ^ 128) (sym (mod-eq_of_lt h)))

pub load64_splat_by_i64 : LoadPair (bare 199) (record { row = 12; conversion = By (Exact 207 None) })
unfolding exact_operator exact_row integer_row row_at table
load64_splat_by_i64 = converted_load v128_load64_splat i64_load doubles_splat refl (λ n h. ap (λ x. splat doubles_wide x % 2 ^ 128) (sym (mod-eq_of_lt h)))

pub load64_zero_by_splat : LoadPair (bare 282) (record { row = 199; conversion = With integer.I64 0 (Exact 219 (Some 1)) })
unfolding exact_operator exact_row integer_row row_at table
load64_zero_by_splat = converted_load v128_load64_zero v128_load64_splat upper_zero refl (λ n h. upper_cleared n h)

-- ---- signs

pub i32_load8_s_by_u : LoadPair (bare 15) (record { row = 16; conversion = By (Whole (Extend8S integer.I32)) })
i32_load8_s_by_u = converted_load i32_load8_s i32_load8_u extend8 refl
    (λ n h. ap (λ x. cast_unsigned w32 (cast_signed w8 x) % 2 ^ 32) (sym (low_kept 8 32 n h (omega arith))))

pub i32_load16_s_by_u : LoadPair (bare 17) (record { row = 18; conversion = By (Whole (Extend16S integer.I32)) })
i32_load16_s_by_u = converted_load i32_load16_s i32_load16_u extend16 refl
    (λ n h. ap (λ x. cast_unsigned w32 (cast_signed w16 x) % 2 ^ 32) (sym (low_kept 16 32 n h (omega arith))))

pub i64_load8_s_by_u : LoadPair (bare 19) (record { row = 20; conversion = By (Whole (Extend8S integer.I64)) })
i64_load8_s_by_u = converted_load i64_load8_s i64_load8_u extend8_wide refl
    (λ n h. ap (λ x. cast_unsigned w64 (cast_signed w8 x) % 2 ^ 64) (sym (low_kept 8 64 n h (omega arith))))

pub i64_load16_s_by_u : LoadPair (bare 21) (record { row = 22; conversion = By (Whole (Extend16S integer.I64)) })
i64_load16_s_by_u = converted_load i64_load16_s i64_load16_u extend16_wide refl
    (λ n h. ap (λ x. cast_unsigned w64 (cast_signed w16 x) % 2 ^ 64) (sym (low_kept 16 64 n h (omega arith))))

pub i64_load32_s_by_u : LoadPair (bare 23) (record { row = 24; conversion = By (Whole Extend32S) })
i64_load32_s_by_u = converted_load i64_load32_s i64_load32_u extend32_wide refl
    (λ n h. ap (λ x. cast_unsigned w64 (cast_signed w32 x) % 2 ^ 64) (sym (low_kept 32 64 n h (omega arith))))

pub i32_load8_masked : LoadPair (bare 16) (record { row = 16; conversion = With integer.I32 255 (Whole (Binary integer.I32 And)) })
i32_load8_masked = converted_load i32_load8_u i32_load8_u (mask integer.I32 255) refl (λ n h. masked_kept 8 32 n h (omega arith))

pub i32_load16_masked : LoadPair (bare 18) (record { row = 18; conversion = With integer.I32 65535 (Whole (Binary integer.I32 And)) })
i32_load16_masked = converted_load i32_load16_u i32_load16_u (mask integer.I32 65535) refl (λ n h. masked_kept 16 32 n h (omega arith))

pub i64_load8_masked : LoadPair (bare 20) (record { row = 20; conversion = With integer.I64 255 (Whole (Binary integer.I64 And)) })
i64_load8_masked = converted_load i64_load8_u i64_load8_u (mask integer.I64 255) refl (λ n h. masked_kept 8 64 n h (omega arith))

pub i64_load16_masked : LoadPair (bare 22) (record { row = 22; conversion = With integer.I64 65535 (Whole (Binary integer.I64 And)) })
i64_load16_masked = converted_load i64_load16_u i64_load16_u (mask integer.I64 65535) refl (λ n h. masked_kept 16 64 n h (omega arith))

pub i64_load32_masked : LoadPair (bare 24) (record { row = 24; conversion = With integer.I64 4294967295 (Whole (Binary integer.I64 And)) })
i64_load32_masked = converted_load i64_load32_u i64_load32_u (mask integer.I64 4294967295) refl (λ n h. masked_kept 32 64 n h (omega arith))

pub i32_store8_extended : StorePair (bare 29) (record { row = 29; conversion = By (Whole (Extend8S integer.I32)) })
i32_store8_extended = converted_store i32_store8 i32_store8 extend8 (λ n h. extended_8 n)

pub i32_store16_extended : StorePair (bare 30) (record { row = 30; conversion = By (Whole (Extend16S integer.I32)) })
i32_store16_extended = converted_store i32_store16 i32_store16 extend16 (λ n h. extended_16 n)

pub i64_store8_extended : StorePair (bare 31) (record { row = 31; conversion = By (Whole (Extend8S integer.I64)) })
i64_store8_extended = converted_store i64_store8 i64_store8 extend8_wide (λ n h. extended_8_wide n)

pub i64_store16_extended : StorePair (bare 32) (record { row = 32; conversion = By (Whole (Extend16S integer.I64)) })
i64_store16_extended = converted_store i64_store16 i64_store16 extend16_wide (λ n h. extended_16_wide n)

pub i64_store32_extended : StorePair (bare 33) (record { row = 33; conversion = By (Whole Extend32S) })
i64_store32_extended = converted_store i64_store32 i64_store32 extend32_wide (λ n h. extended_32_wide n)

pub i32_store8_masked : StorePair (bare 29) (record { row = 29; conversion = With integer.I32 255 (Whole (Binary integer.I32 And)) })
i32_store8_masked = converted_store i32_store8 i32_store8 (mask integer.I32 255) (λ n h. masked_bytes 1 32 n (omega arith))

pub i32_store16_masked : StorePair (bare 30) (record { row = 30; conversion = With integer.I32 65535 (Whole (Binary integer.I32 And)) })
i32_store16_masked = converted_store i32_store16 i32_store16 (mask integer.I32 65535) (λ n h. masked_bytes 2 32 n (omega arith))

pub i64_store8_masked : StorePair (bare 31) (record { row = 31; conversion = With integer.I64 255 (Whole (Binary integer.I64 And)) })
i64_store8_masked = converted_store i64_store8 i64_store8 (mask integer.I64 255) (λ n h. masked_bytes 1 64 n (omega arith))

pub i64_store16_masked : StorePair (bare 32) (record { row = 32; conversion = With integer.I64 65535 (Whole (Binary integer.I64 And)) })
i64_store16_masked = converted_store i64_store16 i64_store16 (mask integer.I64 65535) (λ n h. masked_bytes 2 64 n (omega arith))

pub i64_store32_masked : StorePair (bare 33) (record { row = 33; conversion = With integer.I64 4294967295 (Whole (Binary integer.I64 And)) })
i64_store32_masked = converted_store i64_store32 i64_store32 (mask integer.I64 4294967295) (λ n h. masked_bytes 4 64 n (omega arith))
