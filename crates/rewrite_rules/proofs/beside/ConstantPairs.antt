-- Constants that stand for one another: of floats and of whole numbers by their bits, of vectors by their complements.
use Rattle.std.proofs.Common.{◌≡◌, ℕ, ℤ, ◌%◌, ◌^◌, ◌<◌, true, [], ◌∷◌, Some, None, refl, sym, ap, ◌∙◌, subst}
use Rattle.std.specs.Prelude.{bit_xor}
use Rattle.std.specs.Int.{w32, w64, w128, cast_signed, cast_unsigned}
use Rattle.std.proofs.Math.Nat.{mod-mod}
use Rattle.std.proofs.lemmas.Int.{of_z-to_z}
use Rattle.std.proofs.lemmas.Option.{same_Some}
use Rattle.wasm_code.specs.Instruction.{IsInstruction, InRange, is_of_kind}
use Rattle.wasm_code.specs.declared.immediate.Imm.{Imm}
use Rattle.wasm_code.specs.declared.immediate.Imm.TheVariants as imm
use Rattle.wasm_code.specs.declared.table.Kind.TheVariants as kind
use Rattle.wasm_code.specs.Table.{table, row_at}
use Rattle.wasm_types.specs.declared.types.PrimitiveTypeInfo.TheVariants.{I32, I64, F32, F64, V128}
use Rattle.wasm_execution.specs.declared.integer.IntegerType.TheVariants as integer
use Rattle.wasm_execution.specs.ExactLemmas.{of_bits_fits}
use Rattle.wasm_execution.specs.ExactRow.{ones, words_wide, doubles_wide, exact_row}
use Rattle.wasm_execution.specs.IntegerRow.{integer_row}
use Rattle.wasm_execution.specs.Lanes.{splat}
use Rattle.wasm_execution.specs.OtherRow.{other_type}
use Rattle.wasm_execution.specs.Values.{of_bits, Context}
use Rattle.wasm_equivalence.specs.validation.StaysValid.{MoreGlobalsCheckAlike}
use Rattle.rewrite_rules.specs.declared.access.AccessKind.TheVariants.{Constant}
use Rattle.rewrite_rules.specs.declared.access.AccessSide.{AccessSide}
use Rattle.rewrite_rules.specs.declared.access.Conversion.TheVariants.{By}
use Rattle.rewrite_rules.specs.declared.pattern.Operator.TheVariants.{Exact}
use Rattle.rewrite_rules.specs.Access.{IsOfRow, code_with, other_bits, side_code}
use Rattle.rewrite_rules.specs.Beside.{StandsWith}
use Rattle.rewrite_rules.specs.Exact.{exact_operator}
use Rattle.rewrite_rules.proofs.OperatorLemmas.{low_fits}
use Rattle.rewrite_rules.proofs.beside.AccessLemmas.{conversion_follows}
use Rattle.rewrite_rules.proofs.beside.ConstantLemmas.{Leaves, leave_alike, whole_leaves, bits_leave, then_leaves, same_bits_32}
use Rattle.rewrite_rules.proofs.beside.ConstantLemmas.{same_bits_64, other_back, other_bits_are, vector_fits}
use Rattle.rewrite_rules.proofs.beside.AccessParts.{by, f32_of_bits, f64_of_bits, bits_of_f32, bits_of_f64, complement, words_splat, doubles_splat}
use Rattle.rewrite_rules.proofs.beside.AccessParts.{float_words_splat, float_doubles_splat}
use Rattle.rewrite_rules.proofs.beside.AccessPairs.{bare}

-- What two constants have in common: where one stands, the other one with the same bits, or the other ones, may stand.
pub record ConstantPair (left right : AccessSide) : Type 0 where
  pub stands : MoreGlobalsCheckAlike → (context : Context) → context.info.exact ≡ true → (i k : Imm) → IsInstruction (code_with left.row i) →
      other_bits i ≡ Some k → StandsWith context [] (side_code Constant left i) (side_code Constant right k)

-- by the immediates that the left row takes
of_kind : {A : Type 0} {left right : AccessSide} (made : A → Imm) → ((i : Imm) → IsOfRow left.row i → (x : A) × (i ≡ made x)) →
    (MoreGlobalsCheckAlike → (context : Context) → context.info.exact ≡ true → (x : A) (k : Imm) → InRange (made x) → other_bits (made x) ≡ Some k →
    StandsWith context [] (side_code Constant left (made x)) (side_code Constant right k)) → ConstantPair left right
of_kind {A = A} {left = left} {right = right} made only law = record {
  stands = λ wide context exact i k fits e.
      let (x, is) = only i fits.kind in
      subst (λ (j : Imm). StandsWith context [] (side_code Constant left j) (side_code Constant right k)) (sym is)
      (law wide context exact x k (subst InRange is fits.in_range) (ap other_bits (sym is) ∙ e));
}

only_i32 : (i : Imm) → is_of_kind kind.I32 i ≡ true → (z : ℤ) × (i ≡ imm.I32 z)
only_i32 (imm.I32 z) e = (z, refl)
only_i32 i e = absurd cc

only_i64 : (i : Imm) → is_of_kind kind.I64 i ≡ true → (z : ℤ) × (i ≡ imm.I64 z)
only_i64 (imm.I64 z) e = (z, refl)
only_i64 i e = absurd cc

only_f32 : (i : Imm) → is_of_kind kind.F32 i ≡ true → (n : ℕ) × (i ≡ imm.F32 n)
only_f32 (imm.F32 n) e = (n, refl)
only_f32 i e = absurd cc

only_f64 : (i : Imm) → is_of_kind kind.F64 i ≡ true → (n : ℕ) × (i ≡ imm.F64 n)
only_f64 (imm.F64 n) e = (n, refl)
only_f64 i e = absurd cc

only_v128 : (i : Imm) → is_of_kind kind.V128 i ≡ true → (z : ℤ) × (i ≡ imm.V128 z)
only_v128 (imm.V128 z) e = (z, refl)
only_v128 i e = absurd cc

module _ (context : Context) (exact : context.info.exact ≡ true) where
  i32_leaves : (z : ℤ) → Leaves context (code_with 36 (imm.I32 z) ∷ []) I32 (cast_unsigned w32 z % 2 ^ 32)
  unfolding integer_row row_at table
  i32_leaves z = whole_leaves context (code_with 36 (imm.I32 z)) integer.I32 (cast_unsigned w32 z) refl

  i64_leaves : (z : ℤ) → Leaves context (code_with 37 (imm.I64 z) ∷ []) I64 (cast_unsigned w64 z % 2 ^ 64)
  unfolding integer_row row_at table
  i64_leaves z = whole_leaves context (code_with 37 (imm.I64 z)) integer.I64 (cast_unsigned w64 z) refl

  f32_leaves : (n : ℕ) → Leaves context (code_with 38 (imm.F32 n) ∷ []) F32 (n % 2 ^ 32)
  unfolding integer_row row_at table exact_row other_type
  f32_leaves n = bits_leave context exact (code_with 38 (imm.F32 n)) F32 n refl (λ info. refl) refl

  f64_leaves : (n : ℕ) → Leaves context (code_with 39 (imm.F64 n) ∷ []) F64 (n % 2 ^ 64)
  unfolding integer_row row_at table exact_row other_type
  f64_leaves n = bits_leave context exact (code_with 39 (imm.F64 n)) F64 n refl (λ info. refl) refl

  v128_leaves : (z : ℤ) → Leaves context (code_with 201 (imm.V128 z) ∷ []) V128 (cast_unsigned w128 z % 2 ^ 128)
  unfolding integer_row row_at table exact_row other_type
  v128_leaves z = bits_leave context exact (code_with 201 (imm.V128 z)) V128 (cast_unsigned w128 z) refl (λ info. refl) refl

  -- as another type
  f32_by_bits : (z : ℤ) → Leaves context (side_code Constant (record { row = 36; conversion = By (Exact 161 None) }) (imm.I32 z)) F32
      (cast_unsigned w32 z % 2 ^ 32 % 2 ^ 32)
  unfolding exact_operator exact_row integer_row row_at table
  f32_by_bits z =
      then_leaves context exact (code_with 36 (imm.I32 z)) (By (Exact 161 None)) I32 F32 (cast_unsigned w32 z % 2 ^ 32) (by (Exact 161 None)) (i32_leaves z)
      (low_fits integer.I32 (cast_unsigned w32 z)) (conversion_follows context exact (By (Exact 161 None)) I32 F32 (by (Exact 161 None))
      (f32_of_bits context exact))

  f64_by_bits : (z : ℤ) → Leaves context (side_code Constant (record { row = 37; conversion = By (Exact 162 None) }) (imm.I64 z)) F64
      (cast_unsigned w64 z % 2 ^ 64 % 2 ^ 64)
  unfolding exact_operator exact_row integer_row row_at table
  f64_by_bits z =
      then_leaves context exact (code_with 37 (imm.I64 z)) (By (Exact 162 None)) I64 F64 (cast_unsigned w64 z % 2 ^ 64) (by (Exact 162 None)) (i64_leaves z)
      (low_fits integer.I64 (cast_unsigned w64 z)) (conversion_follows context exact (By (Exact 162 None)) I64 F64 (by (Exact 162 None))
      (f64_of_bits context exact))

  v128_by_others : (z : ℤ) → Leaves context (side_code Constant (record { row = 201; conversion = By (Exact 266 None) }) (imm.V128 z)) V128
      (bit_xor ones (cast_unsigned w128 z % 2 ^ 128) % 2 ^ 128)
  unfolding exact_operator exact_row integer_row row_at table
  v128_by_others z =
      then_leaves context exact (code_with 201 (imm.V128 z)) (By (Exact 266 None)) V128 V128 (cast_unsigned w128 z % 2 ^ 128) (by (Exact 266 None))
      (v128_leaves z)
      (of_bits_fits V128 (cast_unsigned w128 z)) (conversion_follows context exact (By (Exact 266 None)) V128 V128 (by (Exact 266 None))
      (complement context exact))

  -- seen as numbers
  i32_by_bits : (n : ℕ) → Leaves context (side_code Constant (record { row = 38; conversion = By (Exact 159 None) }) (imm.F32 n)) I32 (n % 2 ^ 32 % 2 ^ 32)
  unfolding exact_operator exact_row integer_row row_at table
  i32_by_bits n =
      then_leaves context exact (code_with 38 (imm.F32 n)) (By (Exact 159 None)) F32 I32 (n % 2 ^ 32) (by (Exact 159 None)) (f32_leaves n) (of_bits_fits F32 n)
      (conversion_follows context exact (By (Exact 159 None)) F32 I32 (by (Exact 159 None)) (bits_of_f32 context exact))

  i64_by_bits : (n : ℕ) → Leaves context (side_code Constant (record { row = 39; conversion = By (Exact 160 None) }) (imm.F64 n)) I64 (n % 2 ^ 64 % 2 ^ 64)
  unfolding exact_operator exact_row integer_row row_at table
  i64_by_bits n =
      then_leaves context exact (code_with 39 (imm.F64 n)) (By (Exact 160 None)) F64 I64 (n % 2 ^ 64) (by (Exact 160 None)) (f64_leaves n) (of_bits_fits F64 n)
      (conversion_follows context exact (By (Exact 160 None)) F64 I64 (by (Exact 160 None)) (bits_of_f64 context exact))

  -- in each lane
  f32_splat : (n : ℕ) → Leaves context (side_code Constant (record { row = 38; conversion = By (Exact 208 None) }) (imm.F32 n)) V128
      (of_bits V128 (splat words_wide (n % 2 ^ 32)))
  unfolding exact_operator exact_row integer_row row_at table
  f32_splat n =
      then_leaves context exact (code_with 38 (imm.F32 n)) (By (Exact 208 None)) F32 V128 (n % 2 ^ 32) (by (Exact 208 None)) (f32_leaves n) (of_bits_fits F32 n)
      (conversion_follows context exact (By (Exact 208 None)) F32 V128 (by (Exact 208 None)) (float_words_splat context exact))

  i32_splat : (z : ℤ) → Leaves context (side_code Constant (record { row = 36; conversion = By (Exact 206 None) }) (imm.I32 z)) V128
      (of_bits V128 (splat words_wide (cast_unsigned w32 z % 2 ^ 32)))
  unfolding exact_operator exact_row integer_row row_at table
  i32_splat z =
      then_leaves context exact (code_with 36 (imm.I32 z)) (By (Exact 206 None)) I32 V128 (cast_unsigned w32 z % 2 ^ 32) (by (Exact 206 None)) (i32_leaves z)
      (low_fits integer.I32 (cast_unsigned w32 z)) (conversion_follows context exact (By (Exact 206 None)) I32 V128 (by (Exact 206 None))
      (words_splat context exact))

  f64_splat : (n : ℕ) → Leaves context (side_code Constant (record { row = 39; conversion = By (Exact 209 None) }) (imm.F64 n)) V128
      (of_bits V128 (splat doubles_wide (n % 2 ^ 64)))
  unfolding exact_operator exact_row integer_row row_at table
  f64_splat n =
      then_leaves context exact (code_with 39 (imm.F64 n)) (By (Exact 209 None)) F64 V128 (n % 2 ^ 64) (by (Exact 209 None)) (f64_leaves n) (of_bits_fits F64 n)
      (conversion_follows context exact (By (Exact 209 None)) F64 V128 (by (Exact 209 None)) (float_doubles_splat context exact))

  i64_splat : (z : ℤ) → Leaves context (side_code Constant (record { row = 37; conversion = By (Exact 207 None) }) (imm.I64 z)) V128
      (of_bits V128 (splat doubles_wide (cast_unsigned w64 z % 2 ^ 64)))
  unfolding exact_operator exact_row integer_row row_at table
  i64_splat z =
      then_leaves context exact (code_with 37 (imm.I64 z)) (By (Exact 207 None)) I64 V128 (cast_unsigned w64 z % 2 ^ 64) (by (Exact 207 None)) (i64_leaves z)
      (low_fits integer.I64 (cast_unsigned w64 z)) (conversion_follows context exact (By (Exact 207 None)) I64 V128 (by (Exact 207 None))
      (doubles_splat context exact))

pub f32_constant_by_bits : ConstantPair (bare 38) (record { row = 36; conversion = By (Exact 161 None) })
unfolding row_at table
f32_constant_by_bits = of_kind imm.F32 only_f32 (λ wide context exact n k h e.
    subst (λ (j : Imm). StandsWith context [] (code_with 38 (imm.F32 n) ∷ []) (side_code Constant (record { row = 36; conversion = By (Exact 161 None) }) j))
    (same_Some (imm.I32 (cast_signed w32 n)) k e)
    (leave_alike context wide _ _ F32 (n % 2 ^ 32) (f32_leaves context exact n)
    (subst (Leaves context _ F32) (sym (same_bits_32 n h)) (f32_by_bits context exact (cast_signed w32 n)))))

pub f64_constant_by_bits : ConstantPair (bare 39) (record { row = 37; conversion = By (Exact 162 None) })
unfolding row_at table
f64_constant_by_bits = of_kind imm.F64 only_f64 (λ wide context exact n k h e.
    subst (λ (j : Imm). StandsWith context [] (code_with 39 (imm.F64 n) ∷ []) (side_code Constant (record { row = 37; conversion = By (Exact 162 None) }) j))
    (same_Some (imm.I64 (cast_signed w64 n)) k e)
    (leave_alike context wide _ _ F64 (n % 2 ^ 64) (f64_leaves context exact n)
    (subst (Leaves context _ F64) (sym (same_bits_64 n h)) (f64_by_bits context exact (cast_signed w64 n)))))

pub f32_constant_of_bits : ConstantPair (record { row = 36; conversion = By (Exact 161 None) }) (bare 38)
unfolding row_at table
f32_constant_of_bits = of_kind imm.I32 only_i32 (λ wide context exact z k h e.
    subst (λ (j : Imm). StandsWith context [] (side_code Constant (record { row = 36; conversion = By (Exact 161 None) }) (imm.I32 z)) (code_with 38 j ∷ []))
    (same_Some (imm.F32 (cast_unsigned w32 z)) k e)
    (leave_alike context wide _ _ F32 (cast_unsigned w32 z % 2 ^ 32 % 2 ^ 32) (f32_by_bits context exact z)
    (subst (Leaves context _ F32) (sym (mod-mod (cast_unsigned w32 z) (2 ^ 32))) (f32_leaves context exact (cast_unsigned w32 z)))))

pub f64_constant_of_bits : ConstantPair (record { row = 37; conversion = By (Exact 162 None) }) (bare 39)
unfolding row_at table
f64_constant_of_bits = of_kind imm.I64 only_i64 (λ wide context exact z k h e.
    subst (λ (j : Imm). StandsWith context [] (side_code Constant (record { row = 37; conversion = By (Exact 162 None) }) (imm.I64 z)) (code_with 39 j ∷ []))
    (same_Some (imm.F64 (cast_unsigned w64 z)) k e)
    (leave_alike context wide _ _ F64 (cast_unsigned w64 z % 2 ^ 64 % 2 ^ 64) (f64_by_bits context exact z)
    (subst (Leaves context _ F64) (sym (mod-mod (cast_unsigned w64 z) (2 ^ 64))) (f64_leaves context exact (cast_unsigned w64 z)))))

pub vector_by_others : ConstantPair (bare 201) (record { row = 201; conversion = By (Exact 266 None) })
unfolding row_at table
vector_by_others = of_kind imm.V128 only_v128 (λ wide context exact z k h e.
    subst (λ (j : Imm). StandsWith context [] (code_with 201 (imm.V128 z) ∷ []) (side_code Constant (record { row = 201; conversion = By (Exact 266 None) }) j))
    (same_Some (imm.V128 (cast_signed w128 (bit_xor (cast_unsigned w128 z) ones))) k e)
    (leave_alike context wide _ _ V128 (cast_unsigned w128 z % 2 ^ 128) (v128_leaves context exact z)
    (subst (Leaves context _ V128) (sym (other_back (cast_unsigned w128 z) (vector_fits z h)))
    (v128_by_others context exact (cast_signed w128 (bit_xor (cast_unsigned w128 z) ones))))))

pub vector_of_others : ConstantPair (record { row = 201; conversion = By (Exact 266 None) }) (bare 201)
unfolding row_at table
vector_of_others = of_kind imm.V128 only_v128 (λ wide context exact z k h e.
    subst (λ (j : Imm). StandsWith context [] (side_code Constant (record { row = 201; conversion = By (Exact 266 None) }) (imm.V128 z)) (code_with 201 j ∷ []))
    (same_Some (imm.V128 (cast_signed w128 (bit_xor (cast_unsigned w128 z) ones))) k e)
    (leave_alike context wide _ _ V128 (bit_xor ones (cast_unsigned w128 z % 2 ^ 128) % 2 ^ 128) (v128_by_others context exact z)
    (subst (Leaves context _ V128) (sym (other_bits_are (cast_unsigned w128 z) (vector_fits z h)))
    (v128_leaves context exact (cast_signed w128 (bit_xor (cast_unsigned w128 z) ones))))))

-- the number of 32 bits of a float, and of 64
low_32 : (n : ℕ) → n < 2 ^ 32 → cast_unsigned w32 (cast_signed w32 n) % 2 ^ 32 ≡ n % 2 ^ 32
low_32 n h = ap (λ x. x % 2 ^ 32) (of_z-to_z w32 n h)

low_64 : (n : ℕ) → n < 2 ^ 64 → cast_unsigned w64 (cast_signed w64 n) % 2 ^ 64 ≡ n % 2 ^ 64
low_64 n h = ap (λ x. x % 2 ^ 64) (of_z-to_z w64 n h)

pub i32_constant_of_float : ConstantPair (record { row = 38; conversion = By (Exact 159 None) }) (bare 36)
unfolding row_at table
i32_constant_of_float = of_kind imm.F32 only_f32 (λ wide context exact n k h e.
    subst (λ (j : Imm). StandsWith context [] (side_code Constant (record { row = 38; conversion = By (Exact 159 None) }) (imm.F32 n)) (code_with 36 j ∷ []))
    (same_Some (imm.I32 (cast_signed w32 n)) k e)
    (leave_alike context wide _ _ I32 (n % 2 ^ 32 % 2 ^ 32) (i32_by_bits context exact n)
    (subst (Leaves context _ I32) (low_32 n h ∙ sym (mod-mod n (2 ^ 32))) (i32_leaves context exact (cast_signed w32 n)))))

pub i64_constant_of_float : ConstantPair (record { row = 39; conversion = By (Exact 160 None) }) (bare 37)
unfolding row_at table
i64_constant_of_float = of_kind imm.F64 only_f64 (λ wide context exact n k h e.
    subst (λ (j : Imm). StandsWith context [] (side_code Constant (record { row = 39; conversion = By (Exact 160 None) }) (imm.F64 n)) (code_with 37 j ∷ []))
    (same_Some (imm.I64 (cast_signed w64 n)) k e)
    (leave_alike context wide _ _ I64 (n % 2 ^ 64 % 2 ^ 64) (i64_by_bits context exact n)
    (subst (Leaves context _ I64) (low_64 n h ∙ sym (mod-mod n (2 ^ 64))) (i64_leaves context exact (cast_signed w64 n)))))

pub f32_splat_by_i32 : ConstantPair (record { row = 38; conversion = By (Exact 208 None) }) (record { row = 36; conversion = By (Exact 206 None) })
unfolding row_at table
f32_splat_by_i32 = of_kind imm.F32 only_f32 (λ wide context exact n k h e.
    subst (λ (j : Imm). StandsWith context [] (side_code Constant (record { row = 38; conversion = By (Exact 208 None) }) (imm.F32 n))
    (side_code Constant (record { row = 36; conversion = By (Exact 206 None) }) j))
    (same_Some (imm.I32 (cast_signed w32 n)) k e)
    (leave_alike context wide _ _ V128 (of_bits V128 (splat words_wide (n % 2 ^ 32))) (f32_splat context exact n)
    (subst (λ x. Leaves context (side_code Constant (record { row = 36; conversion = By (Exact 206 None) }) (imm.I32 (cast_signed w32 n))) V128
    (of_bits V128 (splat words_wide x))) (low_32 n h) (i32_splat context exact (cast_signed w32 n)))))

pub f64_splat_by_i64 : ConstantPair (record { row = 39; conversion = By (Exact 209 None) }) (record { row = 37; conversion = By (Exact 207 None) })
unfolding row_at table
f64_splat_by_i64 = of_kind imm.F64 only_f64 (λ wide context exact n k h e.
    subst (λ (j : Imm). StandsWith context [] (side_code Constant (record { row = 39; conversion = By (Exact 209 None) }) (imm.F64 n))
    (side_code Constant (record { row = 37; conversion = By (Exact 207 None) }) j))
    (same_Some (imm.I64 (cast_signed w64 n)) k e)
    (leave_alike context wide _ _ V128 (of_bits V128 (splat doubles_wide (n % 2 ^ 64))) (f64_splat context exact n)
    (subst (λ x. Leaves context (side_code Constant (record { row = 37; conversion = By (Exact 207 None) }) (imm.I64 (cast_signed w64 n))) V128
    (of_bits V128 (splat doubles_wide x))) (low_64 n h) (i64_splat context exact (cast_signed w64 n)))))
