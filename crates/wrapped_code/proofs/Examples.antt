-- A loop that counts down, whose difference stands in a block, in the part of a conditional, and before a conditional branch, run and checked by the
-- definitions alone; and wrapped code that the standard's algorithm refuses.
use Rattle.std.specs.Prelude.{◌≡◌, refl, ℕ, ◌^◌, pos, List, [], ◌∷◌, Some, None}
use Rattle.wasm_code.specs.Instruction.{Instruction}
use Rattle.wasm_code.specs.declared.immediate.BlockType.{BlockType}
use Rattle.wasm_code.specs.declared.immediate.BlockType.TheVariants as type
use Rattle.wasm_code.specs.declared.immediate.Imm.TheVariants as imm
use Rattle.wasm_code.specs.declared.immediate.ValType.TheVariants as val
use Rattle.wasm_code.specs.declared.operator.Operator.{Operator}
use Rattle.wasm_code.specs.declared.operator.Operator.TheVariants as op
use Rattle.wasm_code.specs.Table.{row_at, table}
use Rattle.wasm_types.specs.Module.{Module}
use Rattle.wasm_types.specs.declared.types.PrimitiveTypeInfo.TheVariants as primitive
use Rattle.wasm_execution.specs.declared.integer.IntegerType.TheVariants as integer
use Rattle.wasm_execution.specs.Values.{whole, context_in, World, State, Ends}
use Rattle.wasm_execution.specs.IntegerRow.{constant, integer_row}
use Rattle.wasm_equivalence.specs.control.Function.{structural, Done, At, runs}
use Rattle.wasm_equivalence.specs.control.Standard.{Beyond, standard}
use Rattle.wasm_equivalence.specs.validation.Algorithm.{check}
use Rattle.wasm_equivalence.specs.validation.StandardSteps.{body_frame, standard_steps}
use Rattle.wrapped_code.specs.Wrapped.{once, Wrapped, plain, both, block, loop, choice, leaving, exits, trap, written}

abbrev pub get : Instruction
get = record { row = 4; imm = imm.Index 0 }

abbrev pub number : ℕ → Instruction
number n = record { row = 36; imm = imm.I32 (pos n) }

abbrev pub minus : Instruction
minus = record { row = 78; imm = imm.Nothing }

-- local.get 0; i32.const 1; i32.sub
abbrev pub difference : Wrapped
difference = plain (get ∷ number 1 ∷ minus ∷ [])

abbrev pub one_i32 : BlockType
one_i32 = type.Value val.I32

-- loop; the code; local.tee 0; br_if 0; end; local.get 0; end
abbrev pub countdown : Wrapped → List Operator
countdown c = op.Loop type.Empty ∷ written c (op.Instr (record { row = 6; imm = imm.Index 0 }) ∷ op.BrIf 0 ∷ op.End ∷ op.Instr get ∷ op.End ∷ [])

abbrev pub in_block : Wrapped
in_block = block one_i32 difference

-- i32.const 1; if (result i32); the difference; else; unreachable; end
abbrev in_part : Wrapped
in_part = both (plain (number 1 ∷ [])) (choice one_i32 difference trap)

-- block (result i32); the difference; local.get 0; br_if 0; end
abbrev before_exit : Wrapped
before_exit = exits one_i32 (both difference (plain (get ∷ []))) (plain [])

-- block (result i32); loop (result i32); the difference; end; br 0; i32.const 7; end
abbrev before_dead : Wrapped
before_dead = leaving one_i32 (loop one_i32 difference) (plain (number 7 ∷ []))

-- loop (result i32); the difference; i32.const 0; br_if 0; end
abbrev before_jump : Wrapped
before_jump = once one_i32 (both difference (plain (number 0 ∷ [])))

spelled : countdown in_block ≡
    op.Loop type.Empty
    ∷ op.Block one_i32
    ∷ op.Instr get ∷ op.Instr (number 1) ∷ op.Instr minus
    ∷ op.End
    ∷ op.Instr (record { row = 6; imm = imm.Index 0 })
    ∷ op.BrIf 0
    ∷ op.End
    ∷ op.Instr get
    ∷ op.End ∷ []
spelled = refl

abbrev counting : World → ℕ → State
counting w n = record { locals = whole integer.I32 n ∷ []; globals = []; rest = 0; world = w }

-- from 2, in two laps
Counts : Wrapped → Module → World → Beyond → Type 0
Counts c m w beyond =
    runs (standard m (primitive.I32 ∷ []) (structural (countdown c)) beyond) (countdown c) 2 (At 0 [] [] (counting w 2)) ≡
    Done (Ends (whole integer.I32 0 ∷ []) (counting w 0))

counts_in_block : (m : Module) (w : World) (beyond : Beyond) → Counts in_block m w beyond
unfolding Counts integer_row row_at table
counts_in_block m w beyond = refl

counts_in_part : (m : Module) (w : World) (beyond : Beyond) → Counts in_part m w beyond
unfolding Counts integer_row row_at table
counts_in_part m w beyond = refl

counts_before_exit : (m : Module) (w : World) (beyond : Beyond) → Counts before_exit m w beyond
unfolding Counts integer_row row_at table
counts_before_exit m w beyond = refl

counts_before_dead : (m : Module) (w : World) (beyond : Beyond) → Counts before_dead m w beyond
unfolding Counts integer_row row_at table
counts_before_dead m w beyond = refl

counts_before_jump : (m : Module) (w : World) (beyond : Beyond) → Counts before_jump m w beyond
unfolding Counts integer_row row_at table
counts_before_jump m w beyond = refl

-- the bodies are valid
IsAccepted : Wrapped → Module → Beyond → Type 0
IsAccepted c m beyond =
    check (context_in m (primitive.I32 ∷ [])) (standard_steps m (primitive.I32 ∷ []) (structural (countdown c)) beyond) 0 (countdown c)
    (body_frame (primitive.I32 ∷ []) ∷ []) ≡ Some []

accepted_in_block : (m : Module) (beyond : Beyond) → IsAccepted in_block m beyond
unfolding IsAccepted integer_row row_at table
accepted_in_block m beyond = refl

accepted_in_part : (m : Module) (beyond : Beyond) → IsAccepted in_part m beyond
unfolding IsAccepted integer_row row_at table
accepted_in_part m beyond = refl

accepted_before_exit : (m : Module) (beyond : Beyond) → IsAccepted before_exit m beyond
unfolding IsAccepted integer_row row_at table
accepted_before_exit m beyond = refl

accepted_before_dead : (m : Module) (beyond : Beyond) → IsAccepted before_dead m beyond
unfolding IsAccepted integer_row row_at table
accepted_before_dead m beyond = refl

accepted_before_jump : (m : Module) (beyond : Beyond) → IsAccepted before_jump m beyond
unfolding IsAccepted integer_row row_at table
accepted_before_jump m beyond = refl

-- a block of another type is not
refused : (m : Module) (beyond : Beyond) →
    check (context_in m (primitive.I32 ∷ [])) (standard_steps m (primitive.I32 ∷ []) (structural (countdown (block (type.Value val.I64) difference))) beyond) 0
    (countdown (block (type.Value val.I64) difference)) (body_frame (primitive.I32 ∷ []) ∷ []) ≡ None
unfolding integer_row row_at table
refused m beyond = refl

-- a constant of more bits than its type has is cut to these, and may so be zero
too_large : integer_row (number (2 ^ 32)) ≡ constant integer.I32 (2 ^ 32)
unfolding integer_row row_at table
too_large = refl

zero_then : (whole integer.I32 (2 ^ 32)).number ≡ 0
zero_then = refl
