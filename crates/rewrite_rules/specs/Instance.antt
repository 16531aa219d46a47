-- The code that is an instance of a pattern, and where a line applies (this project).
use Rattle.std.specs.Prelude.{◌≡◌, ℕ, ◌-◌, true, List, [], ◌∷◌, ◌++◌, drop}
use Rattle.std.specs.Int.{cast_signed}
use Rattle.wasm_code.specs.Instruction.{Instruction}
use Rattle.wasm_code.specs.declared.immediate.Imm.{Imm}
use Rattle.wasm_code.specs.declared.immediate.Imm.TheVariants as imm
use Rattle.wasm_types.specs.declared.types.PrimitiveTypeInfo.{PrimitiveTypeInfo}
use Rattle.wasm_execution.specs.declared.integer.IntegerType.{IntegerType}
use Rattle.wasm_execution.specs.declared.integer.IntegerType.TheVariants as integer
use Rattle.wasm_execution.specs.Opcode.{opcode}
use Rattle.wasm_execution.specs.Values.{width_of, Context}
use Rattle.wasm_execution.specs.IntegerRow.{is_numeric}
use Rattle.wasm_equivalence.specs.control.Function.{RunsAs}
use Rattle.wasm_equivalence.specs.control.Wider.{wider}
use Rattle.wasm_equivalence.specs.validation.StaysValid.{ChecksAs}
use Rattle.rewrite_rules.specs.declared.pattern.Operator.{Operator}
use Rattle.rewrite_rules.specs.declared.pattern.Operator.TheVariants.{Whole, Select, Exact}
use Rattle.rewrite_rules.specs.Code.{Leaves, writes, traps, asks}
use Rattle.rewrite_rules.specs.Exact.{lane_immediate}
use Rattle.rewrite_rules.specs.Pattern.{kind_at, Pattern, Patterns, hole, constant, drawn, apply, none, ◌▹◌, holes, draws_by, hole_kind_of}
use Rattle.rewrite_rules.specs.Numbers.{number_of, low, first_word}
use Rattle.rewrite_rules.specs.Order.{is_in, Doing, may_move}
use Rattle.rewrite_rules.specs.Line.{Line, all_hold, is_exact_line}

-- ---- instructions

-- the constant of the type whose value has the low bits of the number
abbrev pub constant_code : IntegerType → ℕ → Instruction
constant_code integer.I32 n = record { row = 36; imm = imm.I32 (cast_signed (width_of integer.I32) (low integer.I32 n)) }
constant_code integer.I64 n = record { row = 37; imm = imm.I64 (cast_signed (width_of integer.I64) (low integer.I64 n)) }

-- the number of an operator's row: those on whole numbers follow one another in the order of their opcodes, from row 40 on (this project numbers the rows)
abbrev pub row_number : Operator → ℕ
row_number (Whole f) = opcode f - 29
row_number Select = 3
row_number (Exact row lane) = row

-- its immediate
abbrev pub immediate_of : Operator → Imm
immediate_of (Exact row lane) = lane_immediate lane
immediate_of o = imm.Nothing

-- the instruction of an operator
abbrev pub operator_code : Operator → Instruction
operator_code o = record { row = row_number o; imm = immediate_of o }

-- ---- code

-- The pattern's code: the operands `x` in its holes, constants of the numbers `c`, drawn ones of the words, and each operator behind its operands.
abbrev mutual
  pub code_of : (x : ℕ → List Instruction) → (c : ℕ → ℕ) → (words : List ℕ) → Pattern → List Instruction
  code_of x c words (hole n) = x n
  code_of x c words (constant t e) = constant_code t (number_of t c e) ∷ []
  code_of x c words (drawn t) = constant_code t (first_word words) ∷ []
  code_of x c words (apply o ps) = codes_of x c words ps ++ operator_code o ∷ []

  pub codes_of : (x : ℕ → List Instruction) → (c : ℕ → ℕ) → (words : List ℕ) → Patterns → List Instruction
  codes_of x c words none = []
  codes_of x c words (p ▹ ps) = code_of x c words p ++ codes_of x c (drop (draws_by p) words) ps

-- ---- where a line applies

-- what the operands may do
abbrev pub doing : (x : ℕ → List Instruction) → Doing
doing x = record { write = λ n. writes (x n); trap = λ n. traps (x n); ask = λ n. asks (x n) }

-- Each operand of the left side needs nothing from what stands before it and leaves one value of its hole's type, a select is of a number or a vector, the
-- constants are as the line asks, and the operands may move to their places on the right side. Where the line has an exact row, what runs the module is exact.
pub record Applies (context : Context) (l : Line) (x : ℕ → List Instruction) (c : ℕ → ℕ) : Type 0 where
  pub type : PrimitiveTypeInfo
  pub numeric : is_numeric type ≡ true
  pub leave : (n : ℕ) → is_in (holes l.left) n ≡ true → Leaves context (x n) (kind_at type (hole_kind_of l.kinds n))
  pub as_asked : all_hold c l.conditions ≡ true
  pub moves : may_move (doing x) (holes l.left) (holes l.right) ≡ true
  pub exact : is_exact_line l ≡ true → context.info.exact ≡ true

-- The new code may stand in the place of the old one, in every body: with any globals behind the module's it does the same, and it is valid wherever the old
-- one is.
pub record StandsFor (context : Context) (old new : List Instruction) : Type 0 where
  pub runs : (more : List PrimitiveTypeInfo) → RunsAs context more old new
  pub checks : (input : List ℕ) (more : List PrimitiveTypeInfo) → ChecksAs context (wider input more context) old new
