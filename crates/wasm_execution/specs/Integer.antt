-- The operators on whole numbers: operand types, result type, and the value or a trap
-- (WebAssembly Core Specification 3.0, Execution, Numerics, Integer Operations and Conversions; traps and the select: Execution, Instructions;
-- types: Validation, Instructions).
use Rattle.std.specs.Prelude.{ℕ, zero, suc, ◌+◌, ◌-◌, ◌*◌, ◌/◌, ◌%◌, ◌^◌, Bool, not, ◌==◌, ◌&&◌, nat_lt, nat_le, if◌then◌else◌, List, []}
use Rattle.std.specs.Prelude.{◌∷◌, Option, Some, None, bit_and, bit_or, bit_xor, int_div, int_rem, int_lt, int_le}
use Rattle.std.specs.Int.{Width, w32, w64, cast_signed, cast_unsigned, leading_zeros, trailing_zeros, rotate_left, rotate_right, int_shr}
use mir.Val.{bits}
use Rattle.wasm_types.specs.declared.types.PrimitiveTypeInfo.{PrimitiveTypeInfo}
use Rattle.wasm_types.specs.declared.types.PrimitiveTypeInfo.TheVariants as primitive
use Rattle.wasm_execution.specs.declared.integer.IntegerType.TheVariants as integer
use Rattle.wasm_execution.specs.Values.{IntegerType, type_of, width_of}

-- an operator: the types of its operands, the last on top, the type of its result, and its value by their numbers
pub record IntegerOperator : Type 0 where
  pub operands : List PrimitiveTypeInfo
  pub result : IntegerType
  -- none where it traps, and for another number of operands; of what it gives, the bits of the result's type are kept
  pub value : List ℕ → Option ℕ

-- ---- numbers

-- the operators on two numbers of one type that give one of that type (ibinop)
pub data Binary : Type 0 where
  add sub mul div_s div_u rem_s rem_u and_ or_ xor_ shl shr_s shr_u rotl rotr : Binary

-- the operators on one number that give one of its type (iunop): leading zeros, trailing zeros, bits set
pub data Unary : Type 0 where
  clz ctz popcnt : Unary

-- the relations of two numbers of one type (irelop), with sign or without
pub data Comparison : Type 0 where
  eq ne lt_s lt_u gt_s gt_u le_s le_u ge_s ge_u : Comparison

-- none where the divisor is 0
abbrev pub unless_zero : ℕ → ℕ → Option ℕ
unless_zero zero n = None
unless_zero (suc d) n = Some n

-- the least number divided by -1
abbrev pub overflows : Width → ℕ → ℕ → Bool
overflows w n d = (n == 2 ^ (bits w - 1)) && (d == 2 ^ bits w - 1)

-- a number of one width read as signed, in another
abbrev pub signed_into : Width → Width → ℕ → ℕ
signed_into from to n = cast_unsigned to (cast_signed from (n % 2 ^ bits from))

-- how many of the lowest k bits are set
abbrev pub ones_in : ℕ → ℕ → ℕ
ones_in zero n = 0
ones_in (suc k) n = n % 2 + ones_in k (n / 2)

-- the value before it is cut to the width; none where it traps: a divisor 0, or a signed quotient too large
abbrev pub binary_value : Width → Binary → ℕ → ℕ → Option ℕ
binary_value w add n m = Some (n + m)
binary_value w sub n m = Some (n + (2 ^ bits w - m))
binary_value w mul n m = Some (n * m)
binary_value w div_s n m = if overflows w n m then None else unless_zero m (cast_unsigned w (int_div (cast_signed w n) (cast_signed w m)))
binary_value w div_u n m = unless_zero m (n / m)
binary_value w rem_s n m = unless_zero m (cast_unsigned w (int_rem (cast_signed w n) (cast_signed w m)))
binary_value w rem_u n m = unless_zero m (n % m)
binary_value w and_ n m = Some (bit_and n m)
binary_value w or_ n m = Some (bit_or n m)
binary_value w xor_ n m = Some (bit_xor n m)
binary_value w shl n m = Some (n * 2 ^ (m % bits w))
binary_value w shr_s n m = Some (cast_unsigned w (int_shr (cast_signed w n) (m % bits w)))
binary_value w shr_u n m = Some (n / 2 ^ (m % bits w))
binary_value w rotl n m = Some (rotate_left w n m)
binary_value w rotr n m = Some (rotate_right w n m)

-- a count of bits, below the width or the width itself
abbrev pub unary_value : Width → Unary → ℕ → ℕ
unary_value w clz n = leading_zeros w n
unary_value w ctz n = trailing_zeros w n
unary_value w popcnt n = ones_in (bits w) n

-- whether the first number stands in that relation to the second one
abbrev pub holds : Width → Comparison → ℕ → ℕ → Bool
holds w eq n m = n == m
holds w ne n m = not (n == m)
holds w lt_s n m = int_lt (cast_signed w n) (cast_signed w m)
holds w lt_u n m = nat_lt n m
holds w gt_s n m = int_lt (cast_signed w m) (cast_signed w n)
holds w gt_u n m = nat_lt m n
holds w le_s n m = int_le (cast_signed w n) (cast_signed w m)
holds w le_u n m = nat_le n m
holds w ge_s n m = int_le (cast_signed w m) (cast_signed w n)
holds w ge_u n m = nat_le m n

-- ---- operators

-- an operator's value on a list of its one operand; none of another number of operands
abbrev pub on_one : (ℕ → Option ℕ) → List ℕ → Option ℕ
on_one f (n ∷ []) = f n
on_one f ns = None

-- the same of two operands, the second of which is on top of the stack
abbrev pub on_two : (ℕ → ℕ → Option ℕ) → List ℕ → Option ℕ
on_two f (n ∷ m ∷ []) = f n m
on_two f ns = None

-- the same of three operands
abbrev pub on_three : (ℕ → ℕ → ℕ → Option ℕ) → List ℕ → Option ℕ
on_three f (n ∷ m ∷ k ∷ []) = f n m k
on_three f ns = None

-- two operands of the type, and a result of it
abbrev pub binary : IntegerType → Binary → IntegerOperator
binary t b = record { operands = type_of t ∷ type_of t ∷ []; result = t; value = on_two (binary_value (width_of t) b) }

-- one operand of the type, and a result of it
abbrev pub unary : IntegerType → Unary → IntegerOperator
unary t u = record { operands = type_of t ∷ []; result = t; value = on_one (λ n. Some (unary_value (width_of t) u n)) }

-- a truth value is 1 or 0
abbrev pub eqz : IntegerType → IntegerOperator
eqz t = record { operands = type_of t ∷ []; result = integer.I32; value = on_one (λ n. Some (if n == 0 then 1 else 0)) }

-- two operands of the type; the result is an i32, whichever the type is
abbrev pub compare : IntegerType → Comparison → IntegerOperator
compare t c = record {
  operands = type_of t ∷ type_of t ∷ [];
  result = integer.I32;
  value = on_two (λ n m. Some (if holds (width_of t) c n m then 1 else 0));
}

-- `i32.wrap_i64`: the low 32 bits, as the result's type keeps them
abbrev pub wrap : IntegerOperator
wrap = record { operands = primitive.I64 ∷ []; result = integer.I32; value = on_one Some }

-- `i64.extend_i32_s`: the number is read with sign
abbrev pub extend_i32_s : IntegerOperator
extend_i32_s = record { operands = primitive.I32 ∷ []; result = integer.I64; value = on_one (λ n. Some (signed_into w32 w64 n)) }

-- `i64.extend_i32_u`: the number stays as it is
abbrev pub extend_i32_u : IntegerOperator
extend_i32_u = record { operands = primitive.I32 ∷ []; result = integer.I64; value = on_one Some }

-- the low bits, with sign
abbrev pub extend_low_s : IntegerType → Width → IntegerOperator
extend_low_s t low = record { operands = type_of t ∷ []; result = t; value = on_one (λ n. Some (signed_into low (width_of t) n)) }

-- the select whose type is written
abbrev pub select_operator : IntegerType → IntegerOperator
select_operator t = record {
  operands = type_of t ∷ type_of t ∷ primitive.I32 ∷ [];
  result = t;
  value = on_three (λ n m c. Some (if c == 0 then m else n));
}
