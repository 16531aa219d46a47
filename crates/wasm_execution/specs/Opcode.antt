-- The opcodes of the operators on whole numbers without an immediate, and the operator of an opcode
-- (WebAssembly Core Specification 3.0, Binary Format, Instructions, Numeric Instructions).
use Rattle.std.specs.Prelude.{ℕ, ◌-◌, ◌==◌, nat_lt, List, [], ◌∷◌, ◌++◌, slice_get, Option, Some, None, if◌then◌else◌}
use Rattle.wasm_execution.specs.declared.integer.IntegerType.{IntegerType}
use Rattle.wasm_execution.specs.declared.integer.IntegerType.TheVariants as integer
use Rattle.wasm_execution.specs.declared.operation.Unary.{Unary}
use Rattle.wasm_execution.specs.declared.operation.Unary.TheVariants.{Clz, Ctz, Popcnt}
use Rattle.wasm_execution.specs.declared.operation.Binary.{Binary}
use Rattle.wasm_execution.specs.declared.operation.Binary.TheVariants.{Add, Sub, Mul, DivS, DivU, RemS, RemU, And, Or, Xor, Shl, ShrS, ShrU, Rotl, Rotr}
use Rattle.wasm_execution.specs.declared.operation.Comparison.{Comparison}
use Rattle.wasm_execution.specs.declared.operation.Comparison.TheVariants.{Eq, Ne, LtS, LtU, GtS, GtU, LeS, LeU, GeS, GeU}
use Rattle.wasm_execution.specs.declared.operation.Operation.{Operation}
use Rattle.wasm_execution.specs.declared.operation.Operation.TheVariants as operation
use Rattle.wasm_execution.specs.declared.operation.TheConstants.{TESTS, ARITHMETIC, CONVERSIONS, EXTENSIONS}

-- one of two opcodes, by the type
abbrev pub by_type : IntegerType → (i32_opcode i64_opcode : ℕ) → ℕ
by_type integer.I32 a b = a
by_type integer.I64 a b = b

-- clz, ctz, popcnt: of i32 and of i64
abbrev pub unary_opcodes : Unary → ℕ × ℕ
unary_opcodes Clz = (0x67, 0x79)
unary_opcodes Ctz = (0x68, 0x7a)
unary_opcodes Popcnt = (0x69, 0x7b)

-- the operators on two numbers that give a third: of i32 and of i64
abbrev pub binary_opcodes : Binary → ℕ × ℕ
binary_opcodes Add = (0x6a, 0x7c)
binary_opcodes Sub = (0x6b, 0x7d)
binary_opcodes Mul = (0x6c, 0x7e)
binary_opcodes DivS = (0x6d, 0x7f)
binary_opcodes DivU = (0x6e, 0x80)
binary_opcodes RemS = (0x6f, 0x81)
binary_opcodes RemU = (0x70, 0x82)
binary_opcodes And = (0x71, 0x83)
binary_opcodes Or = (0x72, 0x84)
binary_opcodes Xor = (0x73, 0x85)
binary_opcodes Shl = (0x74, 0x86)
binary_opcodes ShrS = (0x75, 0x87)
binary_opcodes ShrU = (0x76, 0x88)
binary_opcodes Rotl = (0x77, 0x89)
binary_opcodes Rotr = (0x78, 0x8a)

-- the comparisons: of i32 and of i64
abbrev pub comparison_opcodes : Comparison → ℕ × ℕ
comparison_opcodes Eq = (0x46, 0x51)
comparison_opcodes Ne = (0x47, 0x52)
comparison_opcodes LtS = (0x48, 0x53)
comparison_opcodes LtU = (0x49, 0x54)
comparison_opcodes GtS = (0x4a, 0x55)
comparison_opcodes GtU = (0x4b, 0x56)
comparison_opcodes LeS = (0x4c, 0x57)
comparison_opcodes LeU = (0x4d, 0x58)
comparison_opcodes GeS = (0x4e, 0x59)
comparison_opcodes GeU = (0x4f, 0x5a)

-- the opcode of an operator
abbrev pub opcode : Operation → ℕ
opcode (operation.Eqz t) = by_type t 0x45 0x50
opcode (operation.Compare t f) = by_type t (comparison_opcodes f).0 (comparison_opcodes f).1
opcode (operation.Unary t f) = by_type t (unary_opcodes f).0 (unary_opcodes f).1
opcode (operation.Binary t f) = by_type t (binary_opcodes f).0 (binary_opcodes f).1
opcode operation.WrapI64 = 0xa7
opcode operation.ExtendI32S = 0xac
opcode operation.ExtendI32U = 0xad
opcode (operation.Extend8S t) = by_type t 0xc0 0xc2
opcode (operation.Extend16S t) = by_type t 0xc1 0xc3
opcode operation.Extend32S = 0xc4

-- the operators, in the order of their opcodes
abbrev pub operations : List Operation
operations = TESTS ++ (ARITHMETIC ++ ((operation.WrapI64 ∷ []) ++ (CONVERSIONS ++ EXTENSIONS)))

-- the first of the operators that has the opcode
abbrev pub with_opcode : List Operation → ℕ → Option Operation
with_opcode [] byte = None
with_opcode (f ∷ fs) byte = if opcode f == byte then Some f else with_opcode fs byte

-- the operator of an opcode
abbrev pub operation_of : ℕ → Option Operation
operation_of byte = with_opcode operations byte

-- the operator at the opcode's place, where the operators have consecutive opcodes from the first on
abbrev pub at_opcode : (first : ℕ) → List Operation → ℕ → Option Operation
at_opcode first fs byte = if nat_lt byte first then None else slice_get fs (byte - first)
