-- The difference of the loop that counts down, put back where it stood in a block; why what is replaced has an operator; and what code leaves that writes a
-- local.
use Rattle.std.proofs.Common.{◌≡◌, ℕ, true, false, List, [], ◌∷◌, Some, refl}
use Rattle.wasm_code.specs.Instruction.{Instruction}
use Rattle.wasm_code.specs.declared.immediate.BlockType.TheVariants as type
use Rattle.wasm_code.specs.declared.immediate.Imm.TheVariants as imm
use Rattle.wasm_code.specs.declared.operator.Operator.{Operator}
use Rattle.wasm_code.specs.declared.operator.Operator.TheVariants as op
use Rattle.wasm_code.specs.Table.{row_at, table}
use Rattle.wasm_types.specs.Module.{Module}
use Rattle.wasm_types.specs.declared.types.PrimitiveTypeInfo.TheVariants as primitive
use Rattle.wasm_execution.specs.Values.{context_in}
use Rattle.wasm_execution.specs.IntegerRow.{integer_row}
use Rattle.wasm_execution.specs.SameLemmas.{run_follows}
use Rattle.wasm_equivalence.specs.control.Function.{structural}
use Rattle.wasm_equivalence.specs.control.Standard.{Beyond}
use Rattle.wasm_equivalence.specs.modules.Program.{Body}
use Rattle.wasm_equivalence.specs.validation.Algorithm.{check}
use Rattle.wasm_equivalence.specs.validation.StandardSteps.{body_frame, standard_steps}
use Rattle.wasm_equivalence.specs.validation.StaysValid.{Pushes, TypedCodePushes}
use Rattle.wrapped_code.specs.Wrapped.{Wrapped, plain, written, has_operators, WrappedRunsAs}
use Rattle.wrapped_code.specs.Ways.{is_left}
use Rattle.wrapped_code.specs.Laws.{Unwraps}
use Rattle.wrapped_code.proofs.PushLemmas.{wrapped_pushes}
use Rattle.wrapped_code.proofs.Examples.{get, number, minus, difference, one_i32, countdown, in_block}

-- ---- out of a block

abbrev counts_down : Wrapped → Body
counts_down c = record { params = primitive.I32 ∷ []; locals = []; operators = countdown c }

-- local.tee 0; br_if 0; end; local.get 0; end
abbrev behind : List Operator
behind = op.Instr (record { row = 6; imm = imm.Index 0 }) ∷ op.BrIf 0 ∷ op.End ∷ op.Instr get ∷ op.End ∷ []

pushes : TypedCodePushes → (m : Module) → Pushes (context_in m (primitive.I32 ∷ [])) (get ∷ number 1 ∷ minus ∷ []) [] (primitive.I32 ∷ [])
unfolding integer_row row_at table
pushes typed m =
    let context = context_in m (primitive.I32 ∷ []) in
    let one = primitive.I32 ∷ [] in
    typed.follow context (get ∷ []) (number 1 ∷ minus ∷ []) [] one one (typed.row context get [] one refl)
    (typed.follow context (number 1 ∷ []) (minus ∷ []) one (primitive.I32 ∷ one) one
    (typed.above context (number 1 ∷ []) one [] one (typed.row context (number 1) [] one refl)) (typed.row context minus (primitive.I32 ∷ one) one refl))

out_of_block : TypedCodePushes → (m : Module) (input : List ℕ) → Unwraps m input (counts_down in_block) (counts_down difference)
out_of_block typed m input =
    let context = context_in m (primitive.I32 ∷ []) in
    let push = pushes typed m in
    let same : WrappedRunsAs context [] (get ∷ number 1 ∷ minus ∷ []) in_block =
    λ stack requested s a h r free. run_follows context (get ∷ number 1 ∷ minus ∷ []) requested stack s h a free in
    record {
      params_are = refl;
      locals_are = refl;
      unhandled = refl;
      front = op.Loop type.Empty ∷ [];
      back = behind;
      head = get;
      own = number 1 ∷ minus ∷ [];
      code = in_block;
      there = refl;
      old_is = refl;
      new_is = refl;
      pushed = primitive.I32 ∷ [];
      pushes = push;
      pushes_so = wrapped_pushes.in_block context one_i32 difference refl
          (wrapped_pushes.plain_code context (get ∷ number 1 ∷ minus ∷ []) [] (primitive.I32 ∷ []) push);
      runs = same;
    }

-- ---- behind the end of a body

-- Where no operators stand, none open a frame: behind the last `end` a `nop` isn't valid, though it does what no code does.
nothing_there : has_operators (plain []) ≡ false
nothing_there = refl

abbrev ends_with : List Operator → Module → Beyond → Type 0
ends_with os m beyond =
    check (context_in m []) (standard_steps m [] (structural (op.End ∷ os)) beyond) 0 (op.End ∷ os) (body_frame [] ∷ []) ≡ Some []

accepted : (m : Module) (beyond : Beyond) → ends_with (written (plain []) []) m beyond
accepted m beyond = refl

refused : (m : Module) (beyond : Beyond) → ends_with (op.Instr (record { row = 0; imm = imm.Nothing }) ∷ []) m beyond → ⊥
refused m beyond e = absurd cc

-- ---- what is left

-- i32.const 7; local.tee 1
abbrev writes_one : List Instruction
writes_one = number 7 ∷ record { row = 6; imm = imm.Index 1 } ∷ []

-- it leaves the value of local 0, and the difference, but not that of local 1
leaves_local : is_left writes_one (get ∷ number 1 ∷ minus ∷ []) ≡ true
unfolding integer_row row_at table
leaves_local = refl

writes_local : is_left writes_one (record { row = 4; imm = imm.Index 1 } ∷ []) ≡ false
unfolding integer_row row_at table
writes_local = refl
