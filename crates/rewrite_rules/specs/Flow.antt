-- What the rules on control flow write: a conditional for a select, a condition that is tested, and code that is never reached
-- (this project, after the WebAssembly Core Specification 3.0, Execution, Instructions, Parametric Instructions and Control Instructions).
use Rattle.std.specs.Prelude.{◌≡◌, ℕ, ◌<◌, ◌^◌, Bool, true, false, List, [], ◌∷◌, ◌++◌, map, Some}
use Rattle.wasm_code.specs.Instruction.{Instruction}
use Rattle.wasm_code.specs.declared.immediate.BlockType.TheVariants.{Value}
use Rattle.wasm_code.specs.declared.immediate.ValType.{ValType}
use Rattle.wasm_code.specs.declared.operator.Operator.{Operator}
use Rattle.wasm_code.specs.declared.operator.Operator.TheVariants as op
use Rattle.wasm_types.specs.declared.types.PrimitiveTypeInfo.{PrimitiveTypeInfo}
use Rattle.wasm_types.specs.declared.types.PrimitiveTypeInfo.TheVariants as primitive
use Rattle.wasm_execution.specs.declared.integer.IntegerType.{IntegerType}
use Rattle.wasm_execution.specs.declared.integer.IntegerType.TheVariants as integer
use Rattle.wasm_execution.specs.declared.operation.Comparison.TheVariants.{Ne, LtU}
use Rattle.wasm_execution.specs.declared.operation.Operation.TheVariants as operation
use Rattle.wasm_execution.specs.Values.{Context}
use Rattle.wasm_execution.specs.IntegerRow.{IntegerRow, constant, get, integer_row}
use Rattle.wasm_equivalence.specs.control.Wider.{wider}
use Rattle.wasm_equivalence.specs.validation.StaysValid.{Pushes}
use Rattle.wrapped_code.specs.Wrapped.{Wrapped, written, WrappedRunsAs, WrappedChecksAs}
use Rattle.wrapped_code.specs.Ways.{WrappedPushes}
use Rattle.wrapped_code.specs.Alike.{SameAs}
use Rattle.wrapped_code.specs.Conditions.{SameTruth}
use Rattle.wrapped_code.specs.Indices.{LabelAlike}
use Rattle.rewrite_rules.specs.declared.pattern.Operator.TheVariants.{Whole, Select}
use Rattle.rewrite_rules.specs.Code.{Leaves, writes}
use Rattle.rewrite_rules.specs.Instance.{constant_code, operator_code}
use Rattle.rewrite_rules.specs.Beside.{drop_code}
use Rattle.rewrite_rules.specs.Wrap.{value_of}

-- ---- instructions

-- the row's value is told by the state alone: an integer constant's, or a variable's
abbrev pub is_told_by_state : IntegerRow → Bool
is_told_by_state (constant t n) = true
is_told_by_state (get x) = true
is_told_by_state row = false

-- so is the instruction's
abbrev pub is_leaf : Instruction → Bool
is_leaf i = is_told_by_state (integer_row i)

-- i32.const 0
abbrev pub zero_code : Instruction
zero_code = constant_code integer.I32 0

-- i32.ne
abbrev pub ne_code : Instruction
ne_code = operator_code (Whole (operation.Compare integer.I32 Ne))

-- i32.eqz
abbrev pub eqz_code : Instruction
eqz_code = operator_code (Whole (operation.Eqz integer.I32))

-- i32.lt_u
abbrev pub below_code : Instruction
below_code = operator_code (Whole (operation.Compare integer.I32 LtU))

-- the select whose type isn't written
abbrev pub select_code : Instruction
select_code = operator_code Select

-- ---- conditionals

-- The operators make wrapped code that runs and is checked as the instructions.
pub record MayBranch (context : Context) (own : List Instruction) (t : PrimitiveTypeInfo) (operators : List Operator) : Type 0 where
  pub code : Wrapped
  pub written_is : (rest : List Operator) → written code rest ≡ operators ++ rest
  pub runs : (more : List PrimitiveTypeInfo) → WrappedRunsAs context more own code
  pub checks : (input : List ℕ) (more : List PrimitiveTypeInfo) → WrappedChecksAs context (wider input more context) own code
  pub pushes : Pushes context own [] (t ∷ [])
  pub pushes_so : WrappedPushes context code [] (t ∷ [])

-- A select of constants and variables, whose condition writes nothing, may be a conditional.
abbrev pub SelectsAreConditionals : Type 0
SelectsAreConditionals =
    (context : Context) (x y : Instruction) (c : List Instruction) (t : PrimitiveTypeInfo) (v : ValType) → value_of t ≡ Some v → is_leaf x ≡ true →
    is_leaf y ≡ true → Leaves context (x ∷ []) t → Leaves context (y ∷ []) t → Leaves context c primitive.I32 → writes c ≡ false →
    MayBranch context (x ∷ y ∷ (c ++ select_code ∷ [])) t
    (map (λ (i : Instruction). op.Instr i) c ++ (op.If (Value v) ∷ op.Instr x ∷ op.Else ∷ op.Instr y ∷ op.End ∷ []))

-- ---- conditions

-- A condition may be tested, by `i32.const 0; i32.ne` or by `i32.eqz` twice, and a test taken away: either pushes a number of 32 bits, which is zero where the
-- condition is.
pub record TestsAreConditions : Type 0 where
  pub not_zero : (context : Context) (own : List Instruction) → Leaves context own primitive.I32 → SameTruth context own (own ++ (zero_code ∷ ne_code ∷ []))
  pub not_zero_turned : (context : Context) (own : List Instruction) → Leaves context own primitive.I32 →
      SameTruth context (own ++ (zero_code ∷ ne_code ∷ [])) own
  pub twice_zero : (context : Context) (own : List Instruction) → Leaves context own primitive.I32 → SameTruth context own (own ++ (eqz_code ∷ eqz_code ∷ []))
  pub twice_zero_turned : (context : Context) (own : List Instruction) → Leaves context own primitive.I32 →
      SameTruth context (own ++ (eqz_code ∷ eqz_code ∷ [])) own
  pub pushes : (context : Context) (own : List Instruction) → Leaves context own primitive.I32 → Pushes context own [] (primitive.I32 ∷ [])
  pub pushes_not_zero : (context : Context) (own : List Instruction) → Leaves context own primitive.I32 →
      Pushes context (own ++ (zero_code ∷ ne_code ∷ [])) [] (primitive.I32 ∷ [])
  pub pushes_twice_zero : (context : Context) (own : List Instruction) → Leaves context own primitive.I32 →
      Pushes context (own ++ (eqz_code ∷ eqz_code ∷ [])) [] (primitive.I32 ∷ [])

-- ---- indices

-- an index where it is below the number of labels, without signs, else that number
abbrev pub bounded_code : (count : ℕ) → (own : List Instruction) → List Instruction
bounded_code count own =
    let limit = constant_code integer.I32 count in own ++ (limit ∷ (own ++ (limit ∷ below_code ∷ select_code ∷ [])))

-- An index that writes nothing may be bounded by the number of labels, and a bound taken away: either pushes a number of 32 bits, which picks the same label.
pub record BoundsAreIndices : Type 0 where
  pub bounded : (context : Context) (own : List Instruction) (count : ℕ) → count < 2 ^ 32 → Leaves context own primitive.I32 → writes own ≡ false →
      SameAs (LabelAlike count) context own (bounded_code count own)
  pub bounded_turned : (context : Context) (own : List Instruction) (count : ℕ) → count < 2 ^ 32 → Leaves context own primitive.I32 →
      writes own ≡ false → SameAs (LabelAlike count) context (bounded_code count own) own
  pub pushes : (context : Context) (own : List Instruction) → Leaves context own primitive.I32 → Pushes context own [] (primitive.I32 ∷ [])
  pub pushes_bounded : (context : Context) (own : List Instruction) (count : ℕ) → count < 2 ^ 32 → Leaves context own primitive.I32 →
      Pushes context (bounded_code count own) [] (primitive.I32 ∷ [])

-- ---- code that is never reached

-- Typed code that is dropped pushes nothing.
abbrev pub DroppedCodePushesNothing : Type 0
DroppedCodePushesNothing =
    (context : Context) (own : List Instruction) (t : PrimitiveTypeInfo) → Leaves context own t → Pushes context (own ++ drop_code ∷ []) [] []

-- So does a constant that is dropped.
abbrev pub DroppedConstantsPushNothing : Type 0
DroppedConstantsPushNothing =
    (context : Context) (t : IntegerType) (n : ℕ) → Pushes context (constant_code t n ∷ drop_code ∷ []) [] []
