-- A loop that counts down, run; bodies that the standard's algorithm accepts, and one that it refuses: by the definitions alone.
use Rattle.std.specs.Prelude.{◌≡◌, refl, ℕ, false, pos, List, [], ◌∷◌, Some, None}
use Rattle.wasm_code.specs.declared.immediate.BlockType.TheVariants as block
use Rattle.wasm_code.specs.declared.immediate.Imm.TheVariants as imm
use Rattle.wasm_code.specs.declared.operator.Operator.{Operator}
use Rattle.wasm_code.specs.declared.operator.Operator.TheVariants as op
use Rattle.wasm_code.specs.Table.{row_at, table}
use Rattle.wasm_types.specs.Module.{Module, module_of}
use Rattle.wasm_types.specs.declared.types.ElementType.TheVariants as element
use Rattle.wasm_types.specs.declared.types.PrimitiveTypeInfo.TheVariants as primitive
use Rattle.wasm_types.specs.declared.types.TypeInfo.TheVariants.{Func}
use Rattle.wasm_execution.specs.OtherRow.{other_type}
use Rattle.wasm_execution.specs.declared.integer.IntegerType.TheVariants as integer
use Rattle.wasm_execution.specs.Values.{whole, context_in, World, State, Ends}
use Rattle.wasm_execution.specs.IntegerRow.{integer_row}
use Rattle.wasm_equivalence.specs.control.Function.{structural, At, Done, runs}
use Rattle.wasm_equivalence.specs.control.Standard.{Beyond, standard}
use Rattle.wasm_equivalence.specs.validation.Algorithm.{check}
use Rattle.wasm_equivalence.specs.validation.StandardSteps.{body_frame, standard_steps}
use Rattle.wasm_equivalence.specs.validation.Sound.{IsCallOf}

-- loop; local.get 0; i32.const 1; i32.sub; local.tee 0; br_if 0; end; local.get 0; end
abbrev countdown : List Operator
countdown =
    op.Loop block.Empty
    ∷ op.Instr (record { row = 4; imm = imm.Index 0 }) ∷ op.Instr (record { row = 36; imm = imm.I32 (pos 1) })
    ∷ op.Instr (record { row = 78; imm = imm.Nothing }) ∷ op.Instr (record { row = 6; imm = imm.Index 0 })
    ∷ op.BrIf 0
    ∷ op.End
    ∷ op.Instr (record { row = 4; imm = imm.Index 0 })
    ∷ op.End ∷ []

abbrev counting : World → ℕ → State
counting w n = record { locals = whole integer.I32 n ∷ []; globals = []; rest = 0; world = w }

-- from 2 the loop runs twice, and the function is left with 0 in the second lap, after one jump back
counts : (m : Module) (w : World) (beyond : Beyond) →
    runs (standard m (primitive.I32 ∷ []) (structural countdown) beyond) countdown 2 (At 0 [] [] (counting w 2)) ≡
    Done (Ends (whole integer.I32 0 ∷ []) (counting w 0))
unfolding integer_row row_at table
counts m w beyond = refl

-- the body is valid
is_valid : (m : Module) (beyond : Beyond) →
    check (context_in m (primitive.I32 ∷ [])) (standard_steps m (primitive.I32 ∷ []) (structural countdown) beyond) 0 countdown
    (body_frame (primitive.I32 ∷ []) ∷ []) ≡ Some []
unfolding integer_row row_at table
is_valid m beyond = refl

-- unreachable; i32.add; select; drop; end: operands that are never reached may be any
unreached : (m : Module) (beyond : Beyond) →
    check (context_in m []) (standard_steps m [] (op.Unreachable ∷ op.End ∷ []) beyond) 0
    (op.Unreachable ∷ op.Instr (record { row = 77; imm = imm.Nothing }) ∷ op.Instr (record { row = 3; imm = imm.Nothing })
    ∷ op.Instr (record { row = 2; imm = imm.Nothing }) ∷ op.End ∷ []) (body_frame [] ∷ []) ≡ Some []
unfolding integer_row row_at table
unreached m beyond = refl

-- unreachable; i64.const 1; i32.add; end: a known operand of another type is refused
refused : (m : Module) (beyond : Beyond) →
    check (context_in m []) (standard_steps m [] (op.Unreachable ∷ op.End ∷ []) beyond) 0
    (op.Unreachable ∷ op.Instr (record { row = 37; imm = imm.I64 (pos 1) }) ∷ op.Instr (record { row = 77; imm = imm.Nothing }) ∷ op.End ∷ [])
    (body_frame [] ∷ []) ≡ None
unfolding integer_row row_at table
refused m beyond = refl

-- ---- a call through a table

-- one function of an i32 to one, and a table of functions
abbrev info : Module
info = record (module_of []) {
  types = Func (record { params = primitive.I32 ∷ []; returns = primitive.I32 ∷ [] }) ∷ [];
  functions = 0 ∷ [];
  tables = record { element_type = element.Func; table64 = false } ∷ [];
}

-- local.get 0; i32.const 0; call_indirect 0 0; end
calls_by_table : (beyond : Beyond) →
    check (context_in info (primitive.I32 ∷ [])) (standard_steps info (primitive.I32 ∷ []) (op.CallIndirect 0 0 ∷ op.End ∷ []) beyond) 0
    (op.Instr (record { row = 4; imm = imm.Index 0 }) ∷ op.Instr (record { row = 36; imm = imm.I32 (pos 0) }) ∷ op.CallIndirect 0 0 ∷ op.End ∷ [])
    (body_frame (primitive.I32 ∷ []) ∷ []) ≡ Some []
unfolding integer_row row_at table
calls_by_table beyond = refl

-- what it may come to: call 0
is_target : IsCallOf info 0 (record { row = 1; imm = imm.Index 0 })
unfolding integer_row other_type row_at table
is_target = refl
