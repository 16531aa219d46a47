-- The lines on floats, by the type of the integers with as many bits.
use Rattle.std.specs.Prelude.{ℕ}
use Rattle.wasm_types.specs.declared.types.PrimitiveTypeInfo.{PrimitiveTypeInfo}
use Rattle.wasm_types.specs.declared.types.PrimitiveTypeInfo.TheVariants as primitive
use Rattle.wasm_execution.specs.declared.integer.IntegerType.{IntegerType}
use Rattle.wasm_execution.specs.declared.integer.IntegerType.TheVariants as integer
use Rattle.wasm_execution.specs.declared.operation.Binary.{Binary}
use Rattle.wasm_execution.specs.declared.operation.Binary.TheVariants.{And, Or, Xor}
use Rattle.wasm_execution.specs.Values.{type_of}
use Rattle.rewrite_rules.specs.declared.pattern.Number.{Number}
use Rattle.rewrite_rules.specs.declared.pattern.Number.TheVariants.{Literal, Sign}
use Rattle.rewrite_rules.specs.Pattern.{Pattern, constant}
use Rattle.rewrite_rules.specs.Line.{Line}
use Rattle.rewrite_rules.proofs.identities.Words.{x, y, z, two}
use Rattle.rewrite_rules.proofs.identities.ExactWords.{one, pair, typed_line}

-- ---- words

-- the type of the floats
abbrev pub float_of : IntegerType → PrimitiveTypeInfo
float_of integer.I32 = primitive.F32
float_of integer.I64 = primitive.F64

-- a line whose holes are floats, and one whose holes are integers
abbrev pub line : IntegerType → Pattern → Pattern → Line
line t p q = typed_line (float_of t) (float_of t) (float_of t) p q

abbrev pub integer_line : IntegerType → Pattern → Pattern → Line
integer_line t p q = typed_line (type_of t) (type_of t) (type_of t) p q

-- the numbers of the rows
abbrev pub abs_row : IntegerType → ℕ
abs_row integer.I32 = 110
abs_row integer.I64 = 124

abbrev pub neg_row : IntegerType → ℕ
neg_row integer.I32 = 111
neg_row integer.I64 = 125

abbrev pub copysign_row : IntegerType → ℕ
copysign_row integer.I32 = 123
copysign_row integer.I64 = 137

abbrev pub bits_row : IntegerType → ℕ
bits_row integer.I32 = 159
bits_row integer.I64 = 160

abbrev pub float_row : IntegerType → ℕ
float_row integer.I32 = 161
float_row integer.I64 = 162

-- without sign, with the other sign, and with the second one's sign
abbrev pub abs : IntegerType → Pattern → Pattern
abs t = one (abs_row t)

abbrev pub neg : IntegerType → Pattern → Pattern
neg t = one (neg_row t)

abbrev pub copysign : IntegerType → Pattern → Pattern → Pattern
copysign t = pair (copysign_row t)

-- the bits of a float, and the float of bits
abbrev pub to_bits : IntegerType → Pattern → Pattern
to_bits t = one (bits_row t)

abbrev pub of_bits : IntegerType → Pattern → Pattern
of_bits t = one (float_row t)

-- ---- twice, and back

abbrev pub neg_twice : IntegerType → Line
neg_twice t = line t (neg t (neg t x)) x

abbrev pub abs_of_neg : IntegerType → Line
abs_of_neg t = line t (abs t (neg t x)) (abs t x)

abbrev pub abs_twice : IntegerType → Line
abs_twice t = line t (abs t (abs t x)) (abs t x)

abbrev pub float_back : IntegerType → Line
float_back t = line t (of_bits t (to_bits t x)) x

abbrev pub bits_back : IntegerType → Line
bits_back t = integer_line t (to_bits t (of_bits t x)) x

-- ---- by bits

-- all bits but the sign
abbrev pub magnitudes : IntegerType → Number
magnitudes integer.I32 = Literal 2147483647
magnitudes integer.I64 = Literal 9223372036854775807

-- an operator on the bits and a constant
abbrev pub bits_with : Binary → Number → IntegerType → Pattern
bits_with f n t = two t f (to_bits t x) (constant t n)

-- a float as the one of bits that an operator gives
abbrev pub neg_by_bits : IntegerType → Line
neg_by_bits t = line t (neg t x) (of_bits t (bits_with Xor Sign t))

abbrev pub abs_by_bits : IntegerType → Line
abs_by_bits t = line t (abs t x) (of_bits t (bits_with And (magnitudes t) t))

abbrev pub neg_abs_by_bits : IntegerType → Line
neg_abs_by_bits t = line t (neg t (abs t x)) (of_bits t (bits_with Or Sign t))

-- the bits of a float as those that an operator gives
abbrev pub bits_of_neg : IntegerType → Line
bits_of_neg t = line t (to_bits t (neg t x)) (bits_with Xor Sign t)

abbrev pub bits_of_abs : IntegerType → Line
bits_of_abs t = line t (to_bits t (abs t x)) (bits_with And (magnitudes t) t)

-- ---- the sign of another

abbrev pub copysign_of_neg : IntegerType → Line
copysign_of_neg t = line t (copysign t (neg t x) y) (copysign t x y)

abbrev pub copysign_of_abs : IntegerType → Line
copysign_of_abs t = line t (copysign t (abs t x) y) (copysign t x y)

abbrev pub own_sign : IntegerType → Line
own_sign t = line t (copysign t x x) x

abbrev pub abs_of_copysign : IntegerType → Line
abs_of_copysign t = line t (abs t (copysign t x y)) (abs t x)

abbrev pub sign_again : IntegerType → Line
sign_again t = line t (copysign t (copysign t x y) z) (copysign t x z)

abbrev pub sign_of_sign : IntegerType → Line
sign_of_sign t = line t (copysign t x (copysign t y z)) (copysign t x z)

abbrev pub sign_of_neg : IntegerType → Line
sign_of_neg t = line t (copysign t x (neg t y)) (neg t (copysign t x y))

abbrev pub sign_of_own_neg : IntegerType → Line
sign_of_own_neg t = line t (copysign t x (neg t x)) (neg t x)

abbrev pub sign_of_own_abs : IntegerType → Line
sign_of_own_abs t = line t (copysign t x (abs t x)) (abs t x)
