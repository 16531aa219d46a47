-- The lines on comparisons of floats, by the type of the integers with as many bits.
use Rattle.std.specs.Prelude.{ℕ, Bool, not}
use Rattle.std.specs.Int.{Width}
use Rattle.wasm_types.specs.declared.types.PrimitiveTypeInfo.TheVariants as primitive
use Rattle.wasm_execution.specs.declared.integer.IntegerType.{IntegerType}
use Rattle.wasm_execution.specs.declared.integer.IntegerType.TheVariants as integer
use Rattle.wasm_execution.specs.declared.operation.Binary.TheVariants.{And, Or}
use Rattle.wasm_execution.specs.Lanes.{float_lt, float_le, float_eq}
use Rattle.rewrite_rules.specs.Pattern.{Pattern}
use Rattle.rewrite_rules.specs.Line.{Line}
use Rattle.rewrite_rules.proofs.identities.Words.{x, y, two, lit, is_zero}
use Rattle.rewrite_rules.proofs.identities.ExactWords.{pair, typed_line}
use Rattle.rewrite_rules.proofs.identities.FloatWords.{line, neg}

-- ---- words

-- the comparisons
pub data Test : Type 0 where
  equal unequal less greater at_most at_least : Test

-- whether one holds of two floats, as numbers of their width
abbrev pub holds : Width → Test → ℕ → ℕ → Bool
holds w equal n m = float_eq w n m
holds w unequal n m = not (float_eq w n m)
holds w less n m = float_lt w n m
holds w greater n m = float_lt w m n
holds w at_most n m = float_le w n m
holds w at_least n m = float_le w m n

-- the number of its row
abbrev pub test_row : IntegerType → Test → ℕ
test_row integer.I32 equal = 62
test_row integer.I32 unequal = 63
test_row integer.I32 less = 64
test_row integer.I32 greater = 65
test_row integer.I32 at_most = 66
test_row integer.I32 at_least = 67
test_row integer.I64 equal = 68
test_row integer.I64 unequal = 69
test_row integer.I64 less = 70
test_row integer.I64 greater = 71
test_row integer.I64 at_most = 72
test_row integer.I64 at_least = 73

abbrev pub test : IntegerType → Test → Pattern → Pattern → Pattern
test t f = pair (test_row t f)

-- ---- lines

-- the operands change places, and the comparison is turned around
abbrev pub turn : (f g : Test) → IntegerType → Line
turn f g t = line t (test t f x y) (test t g y x)

-- a comparison as the test of the one that holds where it doesn't
abbrev pub negate : (f g : Test) → IntegerType → Line
negate f g t = line t (test t f x y) (is_zero integer.I32 (test t g x y))

-- a float compared with itself: it is less than itself in no case; the second line has its holes behind one of the type of the constant
abbrev pub never : Test → Line
never f = line integer.I32 (test integer.I32 f x x) (lit integer.I32 0)

abbrev pub never_wide : Test → Line
never_wide f = typed_line primitive.I32 primitive.F64 primitive.F64 (test integer.I64 f y y) (lit integer.I32 0)

abbrev pub on_self : (f g : Test) → IntegerType → Line
on_self f g t = line t (test t f x x) (test t g x x)

-- the signs of both operands turned
abbrev pub turn_signs : Test → IntegerType → Line
turn_signs f t = line t (test t f (neg t x) (neg t y)) (test t f y x)

-- equal floats by both orders, and an order by its two parts
abbrev pub both_orders : IntegerType → Line
both_orders t = line t (test t equal x y) (two integer.I32 And (test t at_most x y) (test t at_least x y))

abbrev pub both_parts : (f g : Test) → IntegerType → Line
both_parts f g t = line t (test t f x y) (two integer.I32 Or (test t g x y) (test t equal x y))
