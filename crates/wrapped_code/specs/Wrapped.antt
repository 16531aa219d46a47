-- Code that stands between two places of a body, with blocks, loops and conditionals of its own: how it is written, run, and checked
-- (WebAssembly Core Specification 3.0, Execution, Instructions, Control Instructions, and Appendix, Validation Algorithm; the form: this project).
use Rattle.std.specs.Prelude.{◌≡◌, ◌≢◌, ℕ, zero, suc, ◌-◌, Bool, true, false, ◌||◌, List, [], ◌∷◌, ◌++◌, length, map, take, Option, Some}
use Rattle.std.specs.Prelude.{option_map, option_and_then, slice_get}
use Rattle.std.specs.List.{All}
use Rattle.wasm_code.specs.Instruction.{Instruction}
use Rattle.wasm_code.specs.declared.immediate.BlockType.{BlockType}
use Rattle.wasm_code.specs.declared.operator.Operator.{Operator}
use Rattle.wasm_code.specs.declared.operator.Operator.TheVariants as op
use Rattle.wasm_types.specs.Module.{Module}
use Rattle.wasm_types.specs.declared.types.PrimitiveTypeInfo.{PrimitiveTypeInfo}
use Rattle.wasm_types.specs.declared.types.PrimitiveTypeInfo.TheVariants as primitive
use Rattle.wasm_execution.specs.Values.{Value, IsValue, types, Context, State, HasTypes, own_globals, unreachable, Outcome, Ends, Traps, Stuck, then_run}
use Rattle.wasm_execution.specs.Machine.{run}
use Rattle.wasm_execution.specs.Agreement.{with_globals}
use Rattle.wasm_execution.specs.StateLemmas.{Follows}
use Rattle.wasm_equivalence.specs.control.Blocks.{arity_of, has_arity}
use Rattle.wasm_equivalence.specs.control.Standard.{last_of, unwound}
use Rattle.wasm_equivalence.specs.validation.Algorithm.{Frame, check_code, on_innermost}
use Rattle.wasm_equivalence.specs.validation.StandardSteps.{pop, push, cut_off, label_types, open_frame, close_frame, other_frame, only_where}

-- Instructions; one behind another; a block, or a loop that is left at its end; a conditional with both parts; a block that is left by a branch to its end,
-- with code behind the branch that is never reached; a block that may be left by a conditional branch to its end; a loop with a
-- conditional jump back at its end; and a trap.
pub data Wrapped : Type 0 where
  plain : List Instruction → Wrapped
  both : (first then : Wrapped) → Wrapped
  block : BlockType → (inside : Wrapped) → Wrapped
  loop : BlockType → (inside : Wrapped) → Wrapped
  choice : BlockType → (one other : Wrapped) → Wrapped
  leaving : BlockType → (inside dead : Wrapped) → Wrapped
  exits : BlockType → (inside rest : Wrapped) → Wrapped
  once : BlockType → (inside : Wrapped) → Wrapped
  trap : Wrapped

-- ---- how it is written

-- the operators, before others
abbrev pub written : Wrapped → List Operator → List Operator
written (plain code) back = map (λ (i : Instruction). op.Instr i) code ++ back
written (both a b) back = written a (written b back)
written (block t a) back = op.Block t ∷ written a (op.End ∷ back)
written (loop t a) back = op.Loop t ∷ written a (op.End ∷ back)
written (choice t a b) back = op.If t ∷ written a (op.Else ∷ written b (op.End ∷ back))
written (leaving t a dead) back = op.Block t ∷ written a (op.Br 0 ∷ written dead (op.End ∷ back))
written (exits t a b) back = op.Block t ∷ written a (op.BrIf 0 ∷ written b (op.End ∷ back))
written (once t a) back = op.Loop t ∷ written a (op.BrIf 0 ∷ op.End ∷ back)
written trap back = op.Unreachable ∷ back

-- there is one at least
abbrev pub has_operators : Wrapped → Bool
has_operators (plain []) = false
has_operators (plain (i ∷ code)) = true
has_operators (both a b) = has_operators a || has_operators b
has_operators c = true

-- ---- how it runs

-- a condition that was popped chooses; no other value can
abbrev pub picked_by : PrimitiveTypeInfo → ℕ → (taken other : Outcome) → Outcome
picked_by primitive.I32 zero taken other = other
picked_by primitive.I32 (suc n) taken other = taken
picked_by t n taken other = Stuck

-- the one value that was popped chooses
abbrev pub picked : (popped : List Value) → (taken other : Outcome) → Outcome
picked (c ∷ []) taken other = picked_by c.type c.number taken other
picked vs taken other = Stuck

-- From its first piece to behind its last one, in a module. A block or a loop runs as what is inside; a branch takes what the block gives, and the stack
-- below its parameters. A jump back has no such reading: the code is said to be stuck there.
abbrev pub run_wrapped : Module → Wrapped → List Value → State → Outcome
run_wrapped m (plain code) stack s = run code stack s
run_wrapped m (both a b) stack s = then_run (run_wrapped m a stack s) (run_wrapped m b)
run_wrapped m (block t a) stack s = run_wrapped m a stack s
run_wrapped m (loop t a) stack s = run_wrapped m a stack s
run_wrapped m (choice t a b) stack s =
    let below = take (length stack - 1) stack in picked (last_of 1 stack) (run_wrapped m a below s) (run_wrapped m b below s)
run_wrapped m (leaving t a dead) stack s =
    then_run (run_wrapped m a stack s)
    (λ vs u. Ends (unwound (length stack - length (arity_of m t).starts) (length (arity_of m t).ends) vs) u)
run_wrapped m (exits t a b) stack s =
    then_run (run_wrapped m a stack s)
    (λ vs u. picked (last_of 1 vs)
    (Ends (unwound (length stack - length (arity_of m t).starts) (length (arity_of m t).ends) (take (length vs - 1) vs)) u)
    (run_wrapped m b (take (length vs - 1) vs) u))
run_wrapped m (once t a) stack s =
    then_run (run_wrapped m a stack s) (λ vs u. picked (last_of 1 vs) Stuck (Ends (take (length vs - 1) vs) u))
run_wrapped m trap stack s = Traps unreachable (own_globals s) s.rest

-- Wherever the instructions aren't stuck, the code does the same and keeps the types of requested globals, whatever these hold.
abbrev pub WrappedRunsAs : Context → (requests : List PrimitiveTypeInfo) → (own : List Instruction) → Wrapped → Type 0
WrappedRunsAs context requests own c =
    (stack requested : List Value) (s : State) → All IsValue stack → HasTypes context s → types requested ≡ requests → run own stack s ≢ Stuck →
    Follows requested (run own stack s) (run_wrapped context.info c stack (with_globals requested s))

-- ---- how it is checked

-- the standard's algorithm on it: the frames behind, where it is valid
abbrev pub check_wrapped : Context → Wrapped → List Frame → Option (List Frame)
check_wrapped context (plain code) frames = on_innermost (check_code context code) frames
check_wrapped context (both a b) frames = option_and_then (check_wrapped context b) (check_wrapped context a frames)
check_wrapped context (block t a) frames =
    option_and_then close_frame (option_and_then (check_wrapped context a)
    (only_where (has_arity context.info t) (open_frame (op.Block t) (arity_of context.info t) frames)))
check_wrapped context (loop t a) frames =
    option_and_then close_frame (option_and_then (check_wrapped context a)
    (only_where (has_arity context.info t) (open_frame (op.Loop t) (arity_of context.info t) frames)))
check_wrapped context (choice t a b) frames =
    option_and_then close_frame (option_and_then (check_wrapped context b) (option_and_then other_frame (option_and_then (check_wrapped context a)
    (only_where (has_arity context.info t)
    (option_and_then (open_frame (op.If t) (arity_of context.info t)) (on_innermost (pop (primitive.I32 ∷ [])) frames))))))
check_wrapped context (leaving t a dead) frames =
    option_and_then close_frame (option_and_then (check_wrapped context dead) (option_and_then
    (λ fs. option_and_then (λ f. on_innermost (λ g. option_map cut_off (pop (label_types f) g)) fs) (slice_get fs 0))
    (option_and_then (check_wrapped context a)
    (only_where (has_arity context.info t) (open_frame (op.Block t) (arity_of context.info t) frames)))))
check_wrapped context (exits t a b) frames =
    option_and_then close_frame (option_and_then (check_wrapped context b) (option_and_then
    (λ fs. option_and_then (λ f. on_innermost (λ g. option_and_then (λ d. option_map (push (label_types f)) (pop (label_types f) d))
    (pop (primitive.I32 ∷ []) g)) fs) (slice_get fs 0))
    (option_and_then (check_wrapped context a)
    (only_where (has_arity context.info t) (open_frame (op.Block t) (arity_of context.info t) frames)))))
check_wrapped context (once t a) frames =
    option_and_then close_frame (option_and_then
    (λ fs. option_and_then (λ f. on_innermost (λ g. option_and_then (λ d. option_map (push (label_types f)) (pop (label_types f) d))
    (pop (primitive.I32 ∷ []) g)) fs) (slice_get fs 0))
    (option_and_then (check_wrapped context a)
    (only_where (has_arity context.info t) (open_frame (op.Loop t) (arity_of context.info t) frames))))
check_wrapped context trap frames = on_innermost (λ f. Some (cut_off f)) frames

-- Wherever the instructions are valid, the code is valid in the module with further globals, and leaves the same frame, whatever the frames around it.
abbrev pub WrappedChecksAs : (context after : Context) → (own : List Instruction) → Wrapped → Type 0
WrappedChecksAs context after own c =
    (f g : Frame) (outer : List Frame) → check_code context own f ≡ Some g → check_wrapped after c (f ∷ outer) ≡ Some (g ∷ outer)
