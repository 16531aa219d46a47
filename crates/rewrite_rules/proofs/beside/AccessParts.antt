-- Each load and store that is listed, and each conversion: what is known of it.
use Rattle.std.proofs.Common.{◌≡◌, ℕ, ◌%◌, ◌^◌, true, [], ◌∷◌, Some, None, refl}
use Rattle.std.specs.Prelude.{bit_and, bit_xor}
use Rattle.std.specs.Int.{w8, w16, w32, w64, cast_signed, cast_unsigned}
use Rattle.wasm_code.specs.Table.{table, row_at}
use Rattle.wasm_types.specs.declared.types.PrimitiveTypeInfo.{PrimitiveTypeInfo}
use Rattle.wasm_types.specs.declared.types.PrimitiveTypeInfo.TheVariants.{I32, I64, F32, F64, V128}
use Rattle.wasm_execution.specs.declared.integer.IntegerType.{IntegerType}
use Rattle.wasm_execution.specs.declared.integer.IntegerType.TheVariants as integer
use Rattle.wasm_execution.specs.declared.operation.Binary.TheVariants.{And}
use Rattle.wasm_execution.specs.declared.operation.Operation.TheVariants.{WrapI64, ExtendI32S, ExtendI32U, Extend8S, Extend16S, Extend32S, Binary}
use Rattle.wasm_execution.specs.ExactLemmas.{of_bits_fits}
use Rattle.wasm_execution.specs.ExactRow.{one_to, two_to, ones, plainly, with_the_sign, bytes_wide, halves_wide, words_wide, doubles_wide, exact_row}
use Rattle.wasm_execution.specs.IntegerRow.{integer_row}
use Rattle.wasm_execution.specs.Integer.{signed_into}
use Rattle.wasm_execution.specs.Lanes.{splat, with_lane}
use Rattle.wasm_execution.specs.OtherRow.{other_type}
use Rattle.wasm_execution.specs.Values.{type_of, width_of, of_bits, Context}
use Rattle.wasm_equivalence.specs.validation.Algorithm.{Frame, check_code}
use Rattle.wasm_equivalence.specs.validation.StaysValid.{with_types}
use Rattle.rewrite_rules.specs.declared.access.Conversion.{Conversion}
use Rattle.rewrite_rules.specs.declared.access.Conversion.TheVariants.{By, With}
use Rattle.rewrite_rules.specs.declared.pattern.Operator.{Operator}
use Rattle.rewrite_rules.specs.declared.pattern.Operator.TheVariants.{Whole, Exact}
use Rattle.rewrite_rules.specs.Exact.{exact_operator}
use Rattle.rewrite_rules.specs.Instance.{constant_code}
use Rattle.rewrite_rules.specs.Numbers.{value_on, low, or_zero}
use Rattle.rewrite_rules.proofs.MeaningLemmas.{constant_row}
use Rattle.rewrite_rules.proofs.OperatorLemmas.{low_fits}
use Rattle.rewrite_rules.proofs.beside.FrameLemmas.{constant_pushes}
use Rattle.rewrite_rules.proofs.beside.ConversionLemmas.{whole, exactly_one, Converts, by_operator, with_constant}
use Rattle.rewrite_rules.proofs.beside.AccessLemmas.{IsLoadRow, IsStoreRow}

-- ---- rows

pub i32_load : IsLoadRow 11 (plainly 4) I32
unfolding integer_row row_at table exact_row other_type
i32_load = record { is_other = λ m. refl; has_type = λ info m. refl; loads_so = λ m. refl }

pub i64_load : IsLoadRow 12 (plainly 8) I64
unfolding integer_row row_at table exact_row other_type
i64_load = record { is_other = λ m. refl; has_type = λ info m. refl; loads_so = λ m. refl }

pub f32_load : IsLoadRow 13 (plainly 4) F32
unfolding integer_row row_at table exact_row other_type
f32_load = record { is_other = λ m. refl; has_type = λ info m. refl; loads_so = λ m. refl }

pub f64_load : IsLoadRow 14 (plainly 8) F64
unfolding integer_row row_at table exact_row other_type
f64_load = record { is_other = λ m. refl; has_type = λ info m. refl; loads_so = λ m. refl }

pub i32_load8_s : IsLoadRow 15 (with_the_sign 1 w8 w32) I32
unfolding integer_row row_at table exact_row other_type
i32_load8_s = record { is_other = λ m. refl; has_type = λ info m. refl; loads_so = λ m. refl }

pub i32_load8_u : IsLoadRow 16 (plainly 1) I32
unfolding integer_row row_at table exact_row other_type
i32_load8_u = record { is_other = λ m. refl; has_type = λ info m. refl; loads_so = λ m. refl }

pub i32_load16_s : IsLoadRow 17 (with_the_sign 2 w16 w32) I32
unfolding integer_row row_at table exact_row other_type
i32_load16_s = record { is_other = λ m. refl; has_type = λ info m. refl; loads_so = λ m. refl }

pub i32_load16_u : IsLoadRow 18 (plainly 2) I32
unfolding integer_row row_at table exact_row other_type
i32_load16_u = record { is_other = λ m. refl; has_type = λ info m. refl; loads_so = λ m. refl }

pub i64_load8_s : IsLoadRow 19 (with_the_sign 1 w8 w64) I64
unfolding integer_row row_at table exact_row other_type
i64_load8_s = record { is_other = λ m. refl; has_type = λ info m. refl; loads_so = λ m. refl }

pub i64_load8_u : IsLoadRow 20 (plainly 1) I64
unfolding integer_row row_at table exact_row other_type
i64_load8_u = record { is_other = λ m. refl; has_type = λ info m. refl; loads_so = λ m. refl }

pub i64_load16_s : IsLoadRow 21 (with_the_sign 2 w16 w64) I64
unfolding integer_row row_at table exact_row other_type
i64_load16_s = record { is_other = λ m. refl; has_type = λ info m. refl; loads_so = λ m. refl }

pub i64_load16_u : IsLoadRow 22 (plainly 2) I64
unfolding integer_row row_at table exact_row other_type
i64_load16_u = record { is_other = λ m. refl; has_type = λ info m. refl; loads_so = λ m. refl }

pub i64_load32_s : IsLoadRow 23 (with_the_sign 4 w32 w64) I64
unfolding integer_row row_at table exact_row other_type
i64_load32_s = record { is_other = λ m. refl; has_type = λ info m. refl; loads_so = λ m. refl }

pub i64_load32_u : IsLoadRow 24 (plainly 4) I64
unfolding integer_row row_at table exact_row other_type
i64_load32_u = record { is_other = λ m. refl; has_type = λ info m. refl; loads_so = λ m. refl }

pub v128_load : IsLoadRow 189 (plainly 16) V128
unfolding integer_row row_at table exact_row other_type
v128_load = record { is_other = λ m. refl; has_type = λ info m. refl; loads_so = λ m. refl }

pub v128_load8_splat : IsLoadRow 196 (record { count = 1; extended = splat bytes_wide }) V128
unfolding integer_row row_at table exact_row other_type
v128_load8_splat = record { is_other = λ m. refl; has_type = λ info m. refl; loads_so = λ m. refl }

pub v128_load16_splat : IsLoadRow 197 (record { count = 2; extended = splat halves_wide }) V128
unfolding integer_row row_at table exact_row other_type
v128_load16_splat = record { is_other = λ m. refl; has_type = λ info m. refl; loads_so = λ m. refl }

pub v128_load32_splat : IsLoadRow 198 (record { count = 4; extended = splat words_wide }) V128
unfolding integer_row row_at table exact_row other_type
v128_load32_splat = record { is_other = λ m. refl; has_type = λ info m. refl; loads_so = λ m. refl }

pub v128_load64_splat : IsLoadRow 199 (record { count = 8; extended = splat doubles_wide }) V128
unfolding integer_row row_at table exact_row other_type
v128_load64_splat = record { is_other = λ m. refl; has_type = λ info m. refl; loads_so = λ m. refl }

pub v128_load32_zero : IsLoadRow 281 (plainly 4) V128
unfolding integer_row row_at table exact_row other_type
v128_load32_zero = record { is_other = λ m. refl; has_type = λ info m. refl; loads_so = λ m. refl }

pub v128_load64_zero : IsLoadRow 282 (plainly 8) V128
unfolding integer_row row_at table exact_row other_type
v128_load64_zero = record { is_other = λ m. refl; has_type = λ info m. refl; loads_so = λ m. refl }

pub i32_store : IsStoreRow 25 4 I32
unfolding integer_row row_at table exact_row other_type
i32_store = record { is_other = λ m. refl; has_type = λ info m. refl; stores_so = λ m. refl }

pub i64_store : IsStoreRow 26 8 I64
unfolding integer_row row_at table exact_row other_type
i64_store = record { is_other = λ m. refl; has_type = λ info m. refl; stores_so = λ m. refl }

pub f32_store : IsStoreRow 27 4 F32
unfolding integer_row row_at table exact_row other_type
f32_store = record { is_other = λ m. refl; has_type = λ info m. refl; stores_so = λ m. refl }

pub f64_store : IsStoreRow 28 8 F64
unfolding integer_row row_at table exact_row other_type
f64_store = record { is_other = λ m. refl; has_type = λ info m. refl; stores_so = λ m. refl }

pub i32_store8 : IsStoreRow 29 1 I32
unfolding integer_row row_at table exact_row other_type
i32_store8 = record { is_other = λ m. refl; has_type = λ info m. refl; stores_so = λ m. refl }

pub i32_store16 : IsStoreRow 30 2 I32
unfolding integer_row row_at table exact_row other_type
i32_store16 = record { is_other = λ m. refl; has_type = λ info m. refl; stores_so = λ m. refl }

pub i64_store8 : IsStoreRow 31 1 I64
unfolding integer_row row_at table exact_row other_type
i64_store8 = record { is_other = λ m. refl; has_type = λ info m. refl; stores_so = λ m. refl }

pub i64_store16 : IsStoreRow 32 2 I64
unfolding integer_row row_at table exact_row other_type
i64_store16 = record { is_other = λ m. refl; has_type = λ info m. refl; stores_so = λ m. refl }

pub i64_store32 : IsStoreRow 33 4 I64
unfolding integer_row row_at table exact_row other_type
i64_store32 = record { is_other = λ m. refl; has_type = λ info m. refl; stores_so = λ m. refl }

pub v128_store : IsStoreRow 200 16 V128
unfolding integer_row row_at table exact_row other_type
v128_store = record { is_other = λ m. refl; has_type = λ info m. refl; stores_so = λ m. refl }

-- ---- conversions

-- the number that an operator of one operand gives, and one with a constant
abbrev pub by : Operator → ℕ → ℕ
by o n = or_zero (value_on o (n ∷ []))

abbrev masked : IntegerType → ℕ → ℕ → ℕ
masked t k n = or_zero (value_on (Whole (Binary t And)) (n ∷ low t k ∷ []))

-- in each module that is exact
abbrev Always : (Context → Type 0) → Type 0
Always P = (context : Context) → context.info.exact ≡ true → P context

abbrev pub ConvertsAlways : Conversion → (t u : PrimitiveTypeInfo) → (ℕ → ℕ) → Type 0
ConvertsAlways c t u f = (context : Context) → context.info.exact ≡ true → Converts context c t u f

pub bits_of_f32 : ConvertsAlways (By (Exact 159 None)) F32 I32 (by (Exact 159 None))
unfolding exact_operator exact_row integer_row row_at table
bits_of_f32 context exact =
    by_operator context exact (Exact 159 None) F32 I32 (by (Exact 159 None)) (λ n h. of_bits_fits I32 n)
    (exactly_one 159 None (record { operands = F32 ∷ []; result = I32; value = λ ns. of_bits I32 (one_to (λ n. n) ns) }) refl) (λ n h. refl)

pub bits_of_f64 : ConvertsAlways (By (Exact 160 None)) F64 I64 (by (Exact 160 None))
unfolding exact_operator exact_row integer_row row_at table
bits_of_f64 context exact =
    by_operator context exact (Exact 160 None) F64 I64 (by (Exact 160 None)) (λ n h. of_bits_fits I64 n)
    (exactly_one 160 None (record { operands = F64 ∷ []; result = I64; value = λ ns. of_bits I64 (one_to (λ n. n) ns) }) refl) (λ n h. refl)

pub f32_of_bits : ConvertsAlways (By (Exact 161 None)) I32 F32 (by (Exact 161 None))
unfolding exact_operator exact_row integer_row row_at table
f32_of_bits context exact =
    by_operator context exact (Exact 161 None) I32 F32 (by (Exact 161 None)) (λ n h. of_bits_fits F32 n)
    (exactly_one 161 None (record { operands = I32 ∷ []; result = F32; value = λ ns. of_bits F32 (one_to (λ n. n) ns) }) refl) (λ n h. refl)

pub f64_of_bits : ConvertsAlways (By (Exact 162 None)) I64 F64 (by (Exact 162 None))
unfolding exact_operator exact_row integer_row row_at table
f64_of_bits context exact =
    by_operator context exact (Exact 162 None) I64 F64 (by (Exact 162 None)) (λ n h. of_bits_fits F64 n)
    (exactly_one 162 None (record { operands = I64 ∷ []; result = F64; value = λ ns. of_bits F64 (one_to (λ n. n) ns) }) refl) (λ n h. refl)

pub bytes_splat : ConvertsAlways (By (Exact 204 None)) I32 V128 (by (Exact 204 None))
unfolding exact_operator exact_row integer_row row_at table
bytes_splat context exact =
    by_operator context exact (Exact 204 None) I32 V128 (by (Exact 204 None)) (λ n h. of_bits_fits V128 (splat bytes_wide n))
    (exactly_one 204 None (record { operands = I32 ∷ []; result = V128; value = λ ns. of_bits V128 (one_to (splat bytes_wide) ns) }) refl) (λ n h. refl)

pub halves_splat : ConvertsAlways (By (Exact 205 None)) I32 V128 (by (Exact 205 None))
unfolding exact_operator exact_row integer_row row_at table
halves_splat context exact =
    by_operator context exact (Exact 205 None) I32 V128 (by (Exact 205 None)) (λ n h. of_bits_fits V128 (splat halves_wide n))
    (exactly_one 205 None (record { operands = I32 ∷ []; result = V128; value = λ ns. of_bits V128 (one_to (splat halves_wide) ns) }) refl) (λ n h. refl)

pub words_splat : ConvertsAlways (By (Exact 206 None)) I32 V128 (by (Exact 206 None))
unfolding exact_operator exact_row integer_row row_at table
words_splat context exact =
    by_operator context exact (Exact 206 None) I32 V128 (by (Exact 206 None)) (λ n h. of_bits_fits V128 (splat words_wide n))
    (exactly_one 206 None (record { operands = I32 ∷ []; result = V128; value = λ ns. of_bits V128 (one_to (splat words_wide) ns) }) refl) (λ n h. refl)

pub doubles_splat : ConvertsAlways (By (Exact 207 None)) I64 V128 (by (Exact 207 None))
unfolding exact_operator exact_row integer_row row_at table
doubles_splat context exact =
    by_operator context exact (Exact 207 None) I64 V128 (by (Exact 207 None)) (λ n h. of_bits_fits V128 (splat doubles_wide n))
    (exactly_one 207 None (record { operands = I64 ∷ []; result = V128; value = λ ns. of_bits V128 (one_to (splat doubles_wide) ns) }) refl) (λ n h. refl)

pub float_words_splat : ConvertsAlways (By (Exact 208 None)) F32 V128 (by (Exact 208 None))
unfolding exact_operator exact_row integer_row row_at table
float_words_splat context exact =
    by_operator context exact (Exact 208 None) F32 V128 (by (Exact 208 None)) (λ n h. of_bits_fits V128 (splat words_wide n))
    (exactly_one 208 None (record { operands = F32 ∷ []; result = V128; value = λ ns. of_bits V128 (one_to (splat words_wide) ns) }) refl) (λ n h. refl)

pub float_doubles_splat : ConvertsAlways (By (Exact 209 None)) F64 V128 (by (Exact 209 None))
unfolding exact_operator exact_row integer_row row_at table
float_doubles_splat context exact =
    by_operator context exact (Exact 209 None) F64 V128 (by (Exact 209 None)) (λ n h. of_bits_fits V128 (splat doubles_wide n))
    (exactly_one 209 None (record { operands = F64 ∷ []; result = V128; value = λ ns. of_bits V128 (one_to (splat doubles_wide) ns) }) refl) (λ n h. refl)

pub complement : ConvertsAlways (By (Exact 266 None)) V128 V128 (by (Exact 266 None))
unfolding exact_operator exact_row integer_row row_at table
complement context exact =
    by_operator context exact (Exact 266 None) V128 V128 (by (Exact 266 None)) (λ n h. of_bits_fits V128 (bit_xor ones n))
    (exactly_one 266 None (record { operands = V128 ∷ []; result = V128; value = λ ns. of_bits V128 (one_to (bit_xor ones) ns) }) refl) (λ n h. refl)

pub wrap : ConvertsAlways (By (Whole WrapI64)) I64 I32 (by (Whole WrapI64))
wrap context exact =
    by_operator context exact (Whole WrapI64) I64 I32 (by (Whole WrapI64)) (λ n h. low_fits integer.I32 (n)) (whole WrapI64) (λ n h. refl)

pub extend_u : ConvertsAlways (By (Whole ExtendI32U)) I32 I64 (by (Whole ExtendI32U))
extend_u context exact =
    by_operator context exact (Whole ExtendI32U) I32 I64 (by (Whole ExtendI32U)) (λ n h. low_fits integer.I64 (n)) (whole ExtendI32U) (λ n h. refl)

pub extend_s : ConvertsAlways (By (Whole ExtendI32S)) I32 I64 (by (Whole ExtendI32S))
extend_s context exact =
    by_operator context exact (Whole ExtendI32S) I32 I64 (by (Whole ExtendI32S)) (λ n h. low_fits integer.I64 (signed_into w32 w64 n))
    (whole ExtendI32S) (λ n h. refl)

pub extend8 : ConvertsAlways (By (Whole (Extend8S integer.I32))) I32 I32 (by (Whole (Extend8S integer.I32)))
extend8 context exact =
    by_operator context exact (Whole (Extend8S integer.I32)) I32 I32 (by (Whole (Extend8S integer.I32)))
    (λ n h. low_fits integer.I32 (signed_into w8 w32 n)) (whole (Extend8S integer.I32)) (λ n h. refl)

pub extend16 : ConvertsAlways (By (Whole (Extend16S integer.I32))) I32 I32 (by (Whole (Extend16S integer.I32)))
extend16 context exact =
    by_operator context exact (Whole (Extend16S integer.I32)) I32 I32 (by (Whole (Extend16S integer.I32)))
    (λ n h. low_fits integer.I32 (signed_into w16 w32 n)) (whole (Extend16S integer.I32)) (λ n h. refl)

pub extend8_wide : ConvertsAlways (By (Whole (Extend8S integer.I64))) I64 I64 (by (Whole (Extend8S integer.I64)))
extend8_wide context exact =
    by_operator context exact (Whole (Extend8S integer.I64)) I64 I64 (by (Whole (Extend8S integer.I64)))
    (λ n h. low_fits integer.I64 (signed_into w8 w64 n)) (whole (Extend8S integer.I64)) (λ n h. refl)

pub extend16_wide : ConvertsAlways (By (Whole (Extend16S integer.I64))) I64 I64 (by (Whole (Extend16S integer.I64)))
extend16_wide context exact =
    by_operator context exact (Whole (Extend16S integer.I64)) I64 I64 (by (Whole (Extend16S integer.I64)))
    (λ n h. low_fits integer.I64 (signed_into w16 w64 n)) (whole (Extend16S integer.I64)) (λ n h. refl)

pub extend32_wide : ConvertsAlways (By (Whole Extend32S)) I64 I64 (by (Whole Extend32S))
extend32_wide context exact =
    by_operator context exact (Whole Extend32S) I64 I64 (by (Whole Extend32S)) (λ n h. low_fits integer.I64 (signed_into w32 w64 n)) (whole Extend32S)
    (λ n h. refl)

-- a constant pushes its type
pushes : (t : IntegerType) (k : ℕ) (all : Context) (g : Frame) → check_code all (constant_code t k ∷ []) g ≡ Some (with_types (type_of t ∷ []) g)
pushes t k all g = constant_pushes all (constant_code t k) t (cast_unsigned (width_of t) (cast_signed (width_of t) (low t k))) (constant_row t k) g

pub mask : (t : IntegerType) (k : ℕ) → ConvertsAlways (With t k (Whole (Binary t And))) (type_of t) (type_of t) (masked t k)
mask t k context exact =
    with_constant context exact (Whole (Binary t And)) (type_of t) (type_of t) (masked t k) (λ n h. low_fits t (bit_and n (low t k))) t k (whole (Binary t And))
    (λ n h. refl) (low_fits t k) (pushes t k)

-- the upper half by zeros
pub upper_zero : ConvertsAlways (With integer.I64 0 (Exact 219 (Some 1))) V128 V128 (λ n. with_lane doubles_wide 1 n 0 % 2 ^ 128)
unfolding exact_operator exact_row integer_row row_at table
upper_zero context exact =
    with_constant context exact (Exact 219 (Some 1)) V128 V128 (λ n. with_lane doubles_wide 1 n 0 % 2 ^ 128)
    (λ n h. of_bits_fits V128 (with_lane doubles_wide 1 n 0))
    integer.I64 0
    (exactly_one 219 (Some 1) (record { operands = V128 ∷ I64 ∷ []; result = V128; value = λ ns. of_bits V128 (two_to (with_lane doubles_wide 1) ns) }) refl)
    (λ n h. refl) (low_fits integer.I64 0) (pushes integer.I64 0)
