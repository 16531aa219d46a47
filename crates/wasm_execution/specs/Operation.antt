-- The operators of the code, as the operators on whole numbers that they stand for (this project).
use Rattle.std.specs.Int.{w8, w16, w32}
use Rattle.wasm_execution.specs.declared.integer.IntegerType.TheVariants as integer
use Rattle.wasm_execution.specs.declared.operation.Unary.{Unary as CodeUnary}
use Rattle.wasm_execution.specs.declared.operation.Unary.TheVariants.{Clz, Ctz, Popcnt}
use Rattle.wasm_execution.specs.declared.operation.Binary.{Binary as CodeBinary}
use Rattle.wasm_execution.specs.declared.operation.Binary.TheVariants.{Add, Sub, Mul, DivS, DivU, RemS, RemU, And, Or, Xor, Shl, ShrS, ShrU, Rotl, Rotr}
use Rattle.wasm_execution.specs.declared.operation.Comparison.{Comparison as CodeComparison}
use Rattle.wasm_execution.specs.declared.operation.Comparison.TheVariants.{Eq, Ne, LtS, LtU, GtS, GtU, LeS, LeU, GeS, GeU}
use Rattle.wasm_execution.specs.declared.operation.Operation.{Operation}
use Rattle.wasm_execution.specs.declared.operation.Operation.TheVariants as operation
use Rattle.wasm_execution.specs.Integer.{IntegerOperator, Unary, Binary, Comparison, binary, unary, eqz, compare, wrap, extend_i32_s}
use Rattle.wasm_execution.specs.Integer.{extend_i32_u, extend_low_s, add, sub, mul, div_s, div_u, rem_s, rem_u, and_, or_, xor_, shl, shr_s}
use Rattle.wasm_execution.specs.Integer.{shr_u, rotl, rotr, clz, ctz, popcnt, eq, ne, lt_s, lt_u, gt_s, gt_u, le_s, le_u, ge_s, ge_u}

-- the operator on one number that the code's variant names
abbrev pub unary_of : CodeUnary → Unary
unary_of Clz = clz
unary_of Ctz = ctz
unary_of Popcnt = popcnt

-- the operator on two numbers that the code's variant names
abbrev pub binary_of : CodeBinary → Binary
binary_of Add = add
binary_of Sub = sub
binary_of Mul = mul
binary_of DivS = div_s
binary_of DivU = div_u
binary_of RemS = rem_s
binary_of RemU = rem_u
binary_of And = and_
binary_of Or = or_
binary_of Xor = xor_
binary_of Shl = shl
binary_of ShrS = shr_s
binary_of ShrU = shr_u
binary_of Rotl = rotl
binary_of Rotr = rotr

-- the relation that the code's variant names
abbrev pub comparison_of : CodeComparison → Comparison
comparison_of Eq = eq
comparison_of Ne = ne
comparison_of LtS = lt_s
comparison_of LtU = lt_u
comparison_of GtS = gt_s
comparison_of GtU = gt_u
comparison_of LeS = le_s
comparison_of LeU = le_u
comparison_of GeS = ge_s
comparison_of GeU = ge_u

-- the operator with its types, of the code's variant; extensions by the width of the low bits
abbrev pub operator_of : Operation → IntegerOperator
operator_of (operation.Eqz t) = eqz t
operator_of (operation.Compare t c) = compare t (comparison_of c)
operator_of (operation.Unary t u) = unary t (unary_of u)
operator_of (operation.Binary t b) = binary t (binary_of b)
operator_of operation.WrapI64 = wrap
operator_of operation.ExtendI32S = extend_i32_s
operator_of operation.ExtendI32U = extend_i32_u
operator_of (operation.Extend8S t) = extend_low_s t w8
operator_of (operation.Extend16S t) = extend_low_s t w16
operator_of operation.Extend32S = extend_low_s integer.I64 w32
