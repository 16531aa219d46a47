-- Rules that are no rows of the table (this project).
use Rattle.std.specs.Prelude.{◌≡◌, ℕ, ◌+◌, ◌-◌, ◌^◌, true, false, List, [], ◌∷◌, ◌++◌, length, map, Some}
use mir.Val.{bits}
use Rattle.wasm_code.specs.Instruction.{Instruction, IsInstruction}
use Rattle.wasm_code.specs.declared.immediate.Imm.TheVariants as imm
use Rattle.wasm_types.specs.declared.types.PrimitiveTypeInfo.{PrimitiveTypeInfo}
use Rattle.wasm_execution.specs.declared.integer.IntegerType.{IntegerType}
use Rattle.wasm_execution.specs.declared.operation.Binary.TheVariants.{Add}
use Rattle.wasm_execution.specs.declared.operation.Operation.{Operation}
use Rattle.wasm_execution.specs.declared.operation.Operation.TheVariants as operation
use Rattle.wasm_execution.specs.Values.{width_of, Value, whole, types, Context}
use Rattle.wasm_execution.specs.Computed.{computed}
use Rattle.wasm_execution.specs.Operation.{operator_of}
use Rattle.wasm_equivalence.specs.control.Function.{RunsAs}
use Rattle.wasm_equivalence.specs.control.Wider.{wider}
use Rattle.wasm_equivalence.specs.validation.StaysValid.{ChecksAs}
use Rattle.rewrite_rules.specs.declared.pattern.Operator.TheVariants.{Whole}
use Rattle.rewrite_rules.specs.Code.{Leaves, writes, traps}
use Rattle.wasm_code.specs.declared.immediate.Imm.{Imm}
use Rattle.rewrite_rules.specs.declared.access.Access.{Access}
use Rattle.rewrite_rules.specs.Access.{access_at, code_with, left_code, right_code, written_imm}
use Rattle.rewrite_rules.specs.Numbers.{low}
use Rattle.rewrite_rules.specs.Instance.{constant_code, operator_code, StandsFor}

-- ---- instructions, by the numbers of their rows

abbrev pub nop_code : Instruction
nop_code = record { row = 0; imm = imm.Nothing }

abbrev pub drop_code : Instruction
drop_code = record { row = 2; imm = imm.Nothing }

-- local.get, local.set, local.tee
abbrev pub get_local : ℕ → Instruction
get_local n = record { row = 4; imm = imm.Index n }

abbrev pub set_local : ℕ → Instruction
set_local n = record { row = 5; imm = imm.Index n }

abbrev pub tee_local : ℕ → Instruction
tee_local n = record { row = 6; imm = imm.Index n }

-- global.get, global.set
abbrev pub get_global : ℕ → Instruction
get_global n = record { row = 7; imm = imm.Index n }

abbrev pub set_global : ℕ → Instruction
set_global n = record { row = 8; imm = imm.Index n }

-- ---- code

-- constants, each of a type and a number, whose low bits count
abbrev pub constants : List (IntegerType × ℕ) → List Instruction
constants cs = map (λ (c : IntegerType × ℕ). constant_code c.0 c.1) cs

-- what they leave
abbrev pub left_by : List (IntegerType × ℕ) → List Value
left_by cs = map (λ (c : IntegerType × ℕ). whole c.0 c.1) cs

-- the sum of a word's low bits and of what is left of the number
abbrev pub sum_code : IntegerType → (number word : ℕ) → List Instruction
sum_code t n word =
    constant_code t word ∷ constant_code t (n + (2 ^ bits (width_of t) - low t word)) ∷ operator_code (Whole (operation.Binary t Add)) ∷ []

-- to the first global behind the module's, and back
abbrev pub through_code : Context → List Instruction
through_code context = set_global (length context.info.globals) ∷ get_global (length context.info.globals) ∷ []

-- ---- what stands for what

-- The new code may stand in the place of the old one, in every body, where globals of these types stand behind the module's: with any others behind these it
-- does the same, and it is valid wherever the old one is.
pub record StandsWith (context : Context) (asked : List PrimitiveTypeInfo) (old new : List Instruction) : Type 0 where
  pub runs : (more : List PrimitiveTypeInfo) → RunsAs context (asked ++ more) old new
  pub checks : (input : List ℕ) (more : List PrimitiveTypeInfo) → ChecksAs context (wider input (asked ++ more) context) old new

-- What each rule writes may stand in the place of what stood there.
pub record BesidesKeepCode : Type 0 where
  -- what asks for no globals, as the lines of the table, may stand there with any
  pub unasked : (context : Context) (asked : List PrimitiveTypeInfo) (old new : List Instruction) → StandsFor context old new →
      StandsWith context asked old new
  -- an operator on constants of its operands' types, which has a value on them → the constant of that
  pub fold : (context : Context) (f : Operation) (cs : List (IntegerType × ℕ)) (n : ℕ) → types (left_by cs) ≡ (operator_of f).operands →
      computed (operator_of f) (map (λ v. v.number) (left_by cs)) ≡ Some n →
      StandsWith context [] (constants cs ++ operator_code (Whole f) ∷ []) (constant_code (operator_of f).result n ∷ [])
  -- a constant → the sum of any word and of what is left: it is unfolded
  pub as_a_sum : (context : Context) (t : IntegerType) (n word : ℕ) → StandsWith context [] (constant_code t n ∷ []) (sum_code t n word)
  -- code that leaves one value → the same, and the value through a further global of its type
  pub through_global : (context : Context) (t : PrimitiveTypeInfo) (x : List Instruction) → Leaves context x t →
      StandsWith context (t ∷ []) x (x ++ through_code context)
  -- any code → a nop, and the same
  pub with_nop : (context : Context) (x : List Instruction) → StandsWith context [] x (nop_code ∷ x)
  -- a nop → no code
  pub drop_nop : (context : Context) → StandsWith context [] (nop_code ∷ []) []
  -- code that leaves one value and neither writes nor traps, and a drop → no code
  pub forget : (context : Context) (t : PrimitiveTypeInfo) (x : List Instruction) → Leaves context x t → writes x ≡ false → traps x ≡ false →
      StandsWith context [] (x ++ drop_code ∷ []) []
  -- a tee of a local → a set and a get
  pub tee_to_set : (context : Context) (n : ℕ) → StandsWith context [] (tee_local n ∷ []) (set_local n ∷ get_local n ∷ [])
  -- a set and a get of a local → a tee
  pub set_to_tee : (context : Context) (n : ℕ) → StandsWith context [] (set_local n ∷ get_local n ∷ []) (tee_local n ∷ [])
  -- where what runs the module is exact, an instruction with an immediate that is listed → the other one
  pub access : (context : Context) (n : ℕ) (a : Access) (i k : Imm) → context.info.exact ≡ true → access_at n ≡ Some a →
      IsInstruction (code_with a.left.row i) → written_imm a i ≡ Some k → StandsWith context [] (left_code a i) (right_code a k)
