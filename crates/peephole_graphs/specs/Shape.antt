-- What an operator is to a graph under a module's information. Operands, result and change of the colour are those of the instruction table, and a call's
-- those of its function's type. No graph holds a delimiter, `call_indirect`, a call with more than one result or a `select` that is no instruction. This
-- project's rule; a call's operands and results: WebAssembly Core Specification 3.0, Validation, Instructions.
use Rattle.std.specs.Prelude.{ℕ, Bool, true, false, List, [], ◌∷◌, length, Option, None, Some, reverse}
use Rattle.std.specs.List.{All}
use Rattle.wasm_code.specs.Instruction.{Instruction}
use Rattle.wasm_code.specs.Table.{row_info_of}
use Rattle.wasm_code.specs.declared.immediate.Imm.{Imm}
use Rattle.wasm_code.specs.declared.immediate.Imm.TheVariants.{Index}
use Rattle.wasm_code.specs.declared.table.RowInfo.{RowInfo}
use Rattle.wasm_code.specs.declared.table.ResultKind.{ResultKind}
use Rattle.wasm_code.specs.declared.table.ResultKind.TheVariants.{Nothing}
use Rattle.wasm_code.specs.declared.operator.Operator.{Operator}
use Rattle.wasm_code.specs.declared.operator.Operator.TheVariants.{Instr}
use Rattle.wasm_types.specs.Module.{Module, function_type}
use Rattle.wasm_types.specs.declared.types.PrimitiveTypeInfo.{PrimitiveTypeInfo}
use Rattle.wasm_types.specs.declared.types.TypeInfo.{TypeInfo}
use Rattle.wasm_types.specs.declared.types.TypeInfo.TheVariants.{Func, Other}
-- a shape has the fields `instr`, `operands`, `has_result` and `change`; an operator fits with a shape, is unfit, or calls a function that isn't known
pub use Rattle.peephole_graphs.specs.declared.shape.Shape.{Shape}
pub use Rattle.peephole_graphs.specs.declared.shape.Judged.{Judged}
pub use Rattle.peephole_graphs.specs.declared.shape.Judged.TheVariants.{Fits, Unfit, Unknown}

-- an instruction has a result unless its row says that it has none
abbrev pub has_result : ResultKind → Bool
has_result Nothing = false
has_result _ = true

-- A call has as many operands as its function has parameters. Without a result it raises the colour by 2, with one by 1; with more it is unfit.
abbrev pub call_shape : Instruction → ℕ → List PrimitiveTypeInfo → Judged
call_shape i parameters [] = Fits (record { instr = i; operands = parameters; has_result = false; change = 2 })
call_shape i parameters (one ∷ []) = Fits (record { instr = i; operands = parameters; has_result = true; change = 1 })
call_shape i parameters _ = Unfit

-- a call of the function with an index, by its type; unknown where there is none
abbrev pub judge_callee : Instruction → ℕ → Option TypeInfo → Judged
judge_callee i function None = Unknown function
judge_callee i function (Some Other) = Unknown function
judge_callee i function (Some (Func type)) = call_shape i (length type.params) type.returns

-- a call, whose immediate is the function's index
abbrev pub judge_call : Module → Instruction → Imm → Judged
judge_call info i (Index function) = judge_callee i function (function_type info function)
judge_call info i _ = Unfit

-- by the number of operands, which the table gives for every row but that of calls
abbrev pub judge_row : Module → Instruction → RowInfo → Option ℕ → Judged
judge_row info i row None = judge_call info i i.imm
judge_row info i row (Some operands) = Fits (record { instr = i; operands = operands; has_result = has_result row.result; change = row.change })

-- by the instruction's row; unfit where there is none
abbrev pub judge_found : Module → Instruction → Option RowInfo → Judged
judge_found info i None = Unfit
judge_found info i (Some row) = judge_row info i row row.operands

-- what an instruction is to a graph, by the row that its number names
abbrev pub judge_instruction : Module → Instruction → Judged
judge_instruction info i = judge_found info i (row_info_of i.row)

-- an instruction by its row; no other operator fits
abbrev pub judge : Module → Operator → Judged
judge info (Instr i) = judge_instruction info i
judge info _ = Unfit

-- an operator that a graph can hold
abbrev pub IsFit : Judged → Type 0
IsFit (Fits s) = Unit {0}
IsFit _ = ⊥

-- Operators with their offsets, which count for nothing here.
abbrev pub AreFit : Module → List (Operator × ℕ) → Type 0
AreFit info operators = All (λ (o : Operator × ℕ). IsFit (judge info o.0)) operators

-- the operator's shape in front of those of later ones, where it fits
abbrev pub and_shape : Judged → List Shape → List Shape
and_shape (Fits s) later = s ∷ later
and_shape _ later = later

-- the shapes of operators that all fit
abbrev pub operator_shapes : Module → List (Operator × ℕ) → List Shape
operator_shapes info [] = []
operator_shapes info (o ∷ os) = and_shape (judge info o.0) (operator_shapes info os)

-- A block as the theory has it: the shapes of its operators, the last operator first.
abbrev pub shapes_of_block : Module → List (Operator × ℕ) → List Shape
shapes_of_block info operators = reverse (operator_shapes info operators)
