-- The integer rows of the instructions that nodes without a row add, and what these instructions leave.
use Rattle.std.proofs.Common.{◌≡◌, ℕ, ℤ, ◌+◌, ◌-◌, ◌%◌, ◌^◌, ◌<◌, List, [], ◌∷◌, ◌++◌, Some, refl, ap, ap₂, ◌∙◌, arith}
use Rattle.std.specs.Prelude.{slice_get, FitsSigned}
use Rattle.std.specs.Int.{Width, w32, w64, cast_signed, cast_unsigned, int_wrapping_add, int_wrapping_sub}
use Rattle.std.proofs.Math.Facts.{sfits_to_z}
use Rattle.std.proofs.lemmas.Int.{of_z-to_z, to_z-of_z}
use Rattle.std.proofs.Math.Nat.{mod-lt, mod-eq_of_lt}
use mir.Val.{bits}
use mir.ValLaws.{of_z_fits}
use Rattle.wasm_code.specs.Instruction.{Instruction}
use Rattle.wasm_code.specs.Table.{row_at, table}
use Rattle.wasm_code.specs.declared.immediate.Imm.{Imm}
use Rattle.wasm_code.specs.declared.immediate.Imm.TheVariants as imm
use Rattle.wasm_types.specs.declared.types.PrimitiveTypeInfo.{PrimitiveTypeInfo}
use Rattle.wasm_execution.specs.declared.integer.IntegerType.TheVariants as integer
use Rattle.wasm_execution.specs.Values.{type_of, width_of, Value, whole, types, Context, State, global, write, Ends}
use Rattle.wasm_execution.specs.Integer.{binary, add}
use Rattle.wasm_execution.specs.IntegerRow as rows
use Rattle.wasm_execution.specs.IntegerRow.{integer_row, row_types}
use Rattle.wasm_execution.specs.OtherRow.{other_type}
use Rattle.wasm_execution.specs.Machine.{run}
use Rattle.wasm_execution.specs.RangeLemmas.{sum_split, run_sum, run_through}
use Rattle.peephole_terms.specs.declared.encoder.node_kind.NumberType.TheVariants as number
use Rattle.peephole_terms.specs.NodeKind.{NumberType, IntegerType, number_type_of, primitive_of}
use Rattle.peephole_terms.specs.Expansion.{constant, rest_of, add_of, sum, global_set_code, global_get_code}
use Rattle.peephole_terms.specs.Laws.{AddUpTo, UnfoldsAddUp}

-- ---- rows

small : (w : Width) (n : ℕ) → 0 < 2 ^ bits w → cast_unsigned w (cast_signed w (n % 2 ^ bits w)) ≡ n % 2 ^ bits w
small w n l = of_z-to_z w (n % 2 ^ bits w) (mod-lt n l)

left_over : (w : Width) (z : ℤ) (word : ℕ) → 0 < 2 ^ bits w →
    cast_unsigned w (int_wrapping_sub w z (cast_signed w (word % 2 ^ bits w))) ≡
    (cast_unsigned w z + (2 ^ bits w - word % 2 ^ bits w)) % 2 ^ bits w
left_over w z word l =
    small w (cast_unsigned w z + (2 ^ bits w - cast_unsigned w (cast_signed w (word % 2 ^ bits w)))) l ∙
    ap (λ (n : ℕ). (cast_unsigned w z + (2 ^ bits w - n)) % 2 ^ bits w) (small w word l)

-- a word and what is left of a number without it add up to the number
add_up : (w : Width) (word : ℕ) (z : ℤ) → 0 < 2 ^ bits w → FitsSigned w z →
    int_wrapping_add w (cast_signed w (word % 2 ^ bits w)) (int_wrapping_sub w z (cast_signed w (word % 2 ^ bits w))) ≡ z
add_up w word z l f =
    ap₂ (λ (m n : ℕ). cast_signed w ((m + n) % 2 ^ bits w)) (small w word l) (left_over w z word l) ∙
    (ap (cast_signed w) (sum_split (2 ^ bits w) (cast_unsigned w z) word l ∙ mod-eq_of_lt (of_z_fits w z f).fits) ∙ to_z-of_z w z f)

low_fits : (w : Width) (n : ℕ) → 0 < 2 ^ bits w → FitsSigned w (cast_signed w (n % 2 ^ bits w))
low_fits w n l = sfits_to_z (record { fits = mod-lt n l })

adds_up : (w : Width) (number : ℤ → Imm) (one other : Instruction) (word : ℕ) (z : ℤ) → 0 < 2 ^ bits w → FitsSigned w z →
    one.imm ≡ number (cast_signed w (word % 2 ^ bits w)) →
    other.imm ≡ number (int_wrapping_sub w z (cast_signed w (word % 2 ^ bits w))) → AddUpTo w number z one other
adds_up w number one other word z l f a b = record {
  a = cast_signed w (word % 2 ^ bits w);
  b = int_wrapping_sub w z (cast_signed w (word % 2 ^ bits w));
  one_is = a;
  other_is = b;
  a_fits = low_fits w word l;
  b_fits = low_fits w _ l;
  sum = add_up w word z l f;
}

pub unfolds_add_up : UnfoldsAddUp
unfolds_add_up = record {
  i32 = λ word z f. adds_up w32 (λ n. imm.I32 n) (constant number.I32 word) (rest_of integer.I32 word z) word z (omega arith) f refl refl;
  i64 = λ word z f. adds_up w64 (λ n. imm.I64 n) (constant number.I64 word) (rest_of integer.I64 word z) word z (omega arith) f refl refl;
}

pub constant_row : (t : IntegerType) (word : ℕ) → integer_row (constant (number_type_of t) word) ≡ rows.constant t (word % 2 ^ bits (width_of t))
unfolding integer_row row_at table
constant_row integer.I32 word = ap (rows.constant integer.I32) (small w32 word (omega arith))
constant_row integer.I64 word = ap (rows.constant integer.I64) (small w64 word (omega arith))

pub rest_row : (t : IntegerType) (word : ℕ) (z : ℤ) →
    integer_row (rest_of t word z) ≡
    rows.constant t ((cast_unsigned (width_of t) z + (2 ^ bits (width_of t) - word % 2 ^ bits (width_of t))) % 2 ^ bits (width_of t))
unfolding integer_row row_at table
rest_row integer.I32 word z = ap (rows.constant integer.I32) (left_over w32 z word (omega arith))
rest_row integer.I64 word z = ap (rows.constant integer.I64) (left_over w64 z word (omega arith))

pub add_row : (t : IntegerType) → integer_row (add_of t) ≡ rows.operation (binary t add)
unfolding integer_row row_at table
add_row integer.I32 = refl
add_row integer.I64 = refl

-- ---- runs

-- the constant of a word has the word's type
pub constant_types : (context : Context) (t : NumberType) (word : ℕ) → row_types context (integer_row (constant t word)) [] ≡ Some (primitive_of t ∷ [])
unfolding integer_row row_at table other_type
constant_types context number.I32 word = refl
constant_types context number.I64 word = refl
constant_types context number.F32 word = refl
constant_types context number.F64 word = refl

-- and so has what is left of a number without it
pub rest_types : (context : Context) (t : IntegerType) (word : ℕ) (z : ℤ) → row_types context (integer_row (rest_of t word z)) [] ≡ Some (type_of t ∷ [])
unfolding integer_row row_at table
rest_types context integer.I32 word z = refl
rest_types context integer.I64 word z = refl

-- a number as the sum of a word and the rest
pub run_sum_of : (t : IntegerType) (word : ℕ) (z : ℤ) (stack : List Value) (s : State) →
    run (sum t word z) stack s ≡ Ends (stack ++ whole t (cast_unsigned (width_of t) z) ∷ []) s
run_sum_of t word z stack s =
    run_sum t (cast_unsigned (width_of t) z) word (constant (number_type_of t) word) (rest_of t word z) (add_of t) stack s (constant_row t word)
    (rest_row t word z) (add_row t)

-- a value that is put into a global and read from it again
pub run_through_global : (t : PrimitiveTypeInfo) (g : ℕ) (v : Value) (stack : List Value) (s : State) → v.type ≡ t →
    slice_get (types s.globals) g ≡ Some t →
    run (global_set_code g ∷ global_get_code g ∷ []) (stack ++ v ∷ []) s ≡ Ends (stack ++ v ∷ []) (write (global g) v s)
unfolding integer_row row_at table
run_through_global t g v stack s hv hg = run_through t g v (global_set_code g) (global_get_code g) stack s refl refl hv hg
