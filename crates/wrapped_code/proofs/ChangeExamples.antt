-- The loop that counts down, with `i32.eqz` twice before its branch; code put in behind an `unreachable`; and why code that is never reached may not change
-- where a block catches exceptions.
use Rattle.std.proofs.Common.{◌≡◌, ℕ, refl, sym, ap₂, ◌∙◌, subst, false, List, [], ◌∷◌, ◌++◌, Some, None}
use Rattle.std.specs.Prelude.{map}
use Rattle.wasm_code.specs.declared.immediate.BlockType.TheVariants as type
use Rattle.wasm_code.specs.declared.immediate.Imm.TheVariants as imm
use Rattle.wasm_code.specs.Instruction.{Instruction}
use Rattle.wasm_code.specs.declared.operator.Operator.TheVariants as op
use Rattle.wasm_code.specs.declared.other.Other.TheVariants as others
use Rattle.wasm_code.specs.Table.{row_at, table}
use Rattle.wasm_types.specs.Module.{Module}
use Rattle.wasm_types.specs.declared.types.PrimitiveTypeInfo.TheVariants as primitive
use Rattle.wasm_execution.specs.Values.{Context, context_in, divide_by_zero, State, own_globals, HasTypes, Ends, Traps, Stuck}
use Rattle.wasm_execution.specs.Agreement.{with_globals}
use Rattle.wasm_execution.specs.IntegerRow.{integer_row}
use Rattle.wasm_equivalence.specs.control.Function.{structural, Reached, At, Done, runs, FollowsEnd}
use Rattle.wasm_equivalence.specs.control.Standard.{begins, breaks, fails, Beyond, by_asked, standard}
use Rattle.wasm_equivalence.specs.modules.Program.{Body, function_context}
use Rattle.wasm_equivalence.specs.hosts.Embedder.{DoesAs}
use Rattle.wasm_equivalence.specs.validation.StaysValid.{Pushes, TypedCodePushes}
use Rattle.wrapped_code.specs.Conditions.{ConditionsAsTrue, Reconditions}
use Rattle.wrapped_code.specs.Dead.{ChangesDead}
use Rattle.wrapped_code.specs.Handlers.{none_handle}
use Rattle.wrapped_code.proofs.Examples.{get, number}

-- ---- a condition

abbrev is_zero : Instruction
is_zero = record { row = 40; imm = imm.Nothing }

-- loop; the condition; br_if 0; end; end
abbrev repeats : List Instruction → Body
repeats condition = record {
  params = primitive.I32 ∷ [];
  locals = [];
  operators = op.Loop type.Empty ∷ (map (λ (i : Instruction). op.Instr i) condition ++ op.BrIf 0 ∷ op.End ∷ op.End ∷ []);
}

-- local.get 0, and the same with `i32.eqz` twice behind
zero_twice : TypedCodePushes → ConditionsAsTrue → (m : Module) (input : List ℕ) →
    Reconditions m input (repeats (get ∷ [])) (repeats (get ∷ is_zero ∷ is_zero ∷ []))
unfolding integer_row row_at table
zero_twice typed ways m input =
    let context = context_in m (primitive.I32 ∷ []) in
    let one = primitive.I32 ∷ [] in
    let push : Pushes context (get ∷ []) [] one = typed.row context get [] one refl in
    let test : Pushes context (is_zero ∷ []) one one = typed.row context is_zero one one refl in
    record {
      params_are = refl;
      locals_are = refl;
      front = op.Loop type.Empty ∷ [];
      back = op.End ∷ op.End ∷ [];
      own = get ∷ [];
      code = get ∷ is_zero ∷ is_zero ∷ [];
      branch = op.BrIf 0;
      asks = refl;
      old_is = refl;
      new_is = refl;
      pushes = push;
      pushes_so = typed.follow context (get ∷ []) (is_zero ∷ is_zero ∷ []) [] one one push
          (typed.follow context (is_zero ∷ []) (is_zero ∷ []) one one one test test);
      truth = ways.twice_zero context (get ∷ []) is_zero refl push;
    }

-- ---- code that is never reached

-- i32.const 0; i32.const 0; i32.div_u; drop
abbrev divides : List Instruction
divides = number 0 ∷ number 0 ∷ record { row = 81; imm = imm.Nothing } ∷ record { row = 2; imm = imm.Nothing } ∷ []

-- it pushes nothing, and traps
nothing_pushed : TypedCodePushes → (context : Context) → Pushes context divides [] []
unfolding integer_row row_at table
nothing_pushed typed context =
    let one = primitive.I32 ∷ [] in
    let two = primitive.I32 ∷ one in
    let divide : Instruction = record { row = 81; imm = imm.Nothing } in
    let drop : Instruction = record { row = 2; imm = imm.Nothing } in
    typed.follow context (number 0 ∷ []) (number 0 ∷ divide ∷ drop ∷ []) [] one [] (typed.row context (number 0) [] one refl)
    (typed.follow context (number 0 ∷ []) (divide ∷ drop ∷ []) one two []
    (typed.above context (number 0 ∷ []) one [] one (typed.row context (number 0) [] one refl))
    (typed.follow context (divide ∷ []) (drop ∷ []) two one [] (typed.row context divide two one refl) (typed.row context drop one [] refl)))

-- unreachable; the code; end
abbrev trapping : List Instruction → Body
trapping dead = record {
  params = [];
  locals = [];
  operators = op.Unreachable ∷ (map (λ (i : Instruction). op.Instr i) dead ++ op.End ∷ []);
}

put_in : TypedCodePushes → (m : Module) (input : List ℕ) → ChangesDead m input (trapping []) (trapping divides)
put_in typed m input = record {
  params_are = refl;
  locals_are = refl;
  unhandled = refl;
  front = [];
  back = op.End ∷ [];
  own = [];
  code = divides;
  leave = op.Unreachable;
  leaves = refl;
  old_is = refl;
  new_is = refl;
  pushes = typed.nothing (context_in m []) [];
  pushes_so = nothing_pushed typed (context_in m []);
}

-- ---- a part that begins where no part does

-- try; throw 0; unreachable; the code; end; end
abbrev tried : List Instruction → Body
tried dead = record {
  params = [];
  locals = [];
  operators =
      op.Other (others.Byte 0x06) ∷ op.Other (others.Byte 0x08) ∷ op.Unreachable
      ∷ (map (λ (i : Instruction). op.Instr i) dead ++ op.End ∷ op.End ∷ []);
}

refused : none_handle (tried divides).operators ≡ false
refused = refl

-- the exception is caught by a part that begins with the operator of number 2, which is the `unreachable`
abbrev second : Beyond
second = record {
  labels = λ k. [];
  default = λ k. 0;
  target = λ k c r. fails 0;
  takes = λ k. [];
  deed = λ k vs r. breaks 0 r;
  leaves = λ k. None;
  label = λ k. None;
  catcher = λ k mark r. Some (begins 2 [] r);
  clauses = λ k. [];
}

RunOf : Module → Body → State → Reached
RunOf m b s = runs (standard m [] (structural b.operators) (by_asked (structural b.operators) second)) b.operators 1 (At 0 [] [] s)

old_traps : (m : Module) (s : State) → RunOf m (tried divides) s ≡ Done (Traps divide_by_zero (own_globals s) s.rest)
unfolding RunOf integer_row row_at table
old_traps m s = refl

new_ends : (m : Module) (s : State) → RunOf m (tried []) s ≡ Done (Ends [] s)
unfolding RunOf
new_ends m s = refl

differ : (m : Module) (s : State) → HasTypes (function_context m (tried divides)) s → DoesAs m [] [] (tried divides) (tried []) → ⊥
unfolding RunOf
differ m s h d =
    let t = with_globals [] s in
    let trap : Reached = Done (Traps divide_by_zero (own_globals s) s.rest) in
    let are : ◌≡◌ {A = Reached × Reached} (RunOf m (tried divides) s, RunOf m (tried []) t) (trap, Done (Ends [] t)) =
    ap₂ (λ (p q : Reached). (p, q)) (old_traps m s) (new_ends m t) in
    apart s t (subst (λ (x : Reached × Reached). FollowsEnd [] x.0 x.1) are
    (d.alike [] second 1 [] s h refl (λ e. not_stuck s (sym (old_traps m s) ∙ e))))
  where
    not_stuck : (s : State) → ◌≡◌ {A = Reached} (Done (Traps divide_by_zero (own_globals s) s.rest)) (Done Stuck) → ⊥
    not_stuck s e = absurd cc

    apart : (s t : State) → FollowsEnd [] (Done (Traps divide_by_zero (own_globals s) s.rest)) (Done (Ends [] t)) → ⊥
    apart s t (after, e, is) = absurd cc
