-- Where nothing stands behind the module's globals, no run asks what would become of it.
use Rattle.std.proofs.Common.{◌≡◌, ℕ, ◌-◌, Bool, true, false, List, [], ◌∷◌, ◌++◌, length, take, drop, Option, Some, None, refl, sym, ap, ◌∙◌}
use Rattle.std.specs.Prelude.{map, slice_get, is_some}
use Rattle.std.specs.List.{All}
use Rattle.wasm_code.specs.Instruction.{Instruction}
use Rattle.wasm_code.specs.declared.operator.Operator.{Operator}
use Rattle.wasm_execution.specs.declared.integer.IntegerType.{IntegerType}
use Rattle.wasm_execution.specs.Values.{Value, IsValue, types, Context, Cause, World, Answer, Gives, Fails, State, own_globals, local}
use Rattle.wasm_execution.specs.Values.{global, IsSound, HasTypes, Outcome, Ends, Traps, Stuck, then_run, above}
use Rattle.wasm_execution.specs.IntegerRow.{IntegerRow, constant, operation, get, set, tee, discard, select, nop, other, operand_count, row_types, integer_row}
use Rattle.wasm_execution.specs.Machine.{division_trap_cause, number_or_trap, read_of, answered, effect, only_if, state_context, act, step, run}
use Rattle.wasm_execution.specs.Laws.{Keeps}
use Rattle.wasm_execution.specs.StateLemmas.{others_none}
use Rattle.wasm_execution.specs.TypeLemmas.{step_keeps, run_keeps}
use Rattle.wasm_equivalence.specs.control.Function.{piece, Label, Reached, At, Done, Control, go_on, pass, stands_at, visit, runs, Others}
use Rattle.wasm_equivalence.specs.control.Function.{OthersKeepTypes, world_by, state_by, outcome_in_world, reached_by, IsTyped}
use Rattle.wasm_equivalence.specs.control.Function.{IsSoundControl}
use Rattle.wasm_equivalence.proofs.control.LapLemmas.{visits_if, runs_relate}
use Rattle.wasm_equivalence.proofs.control.FunctionLemmas.{pass_typed}

pub sound_by : (o : Others) (w : World) → OthersKeepTypes o → IsSound w → IsSound (world_by o w)
sound_by o w k s = record {
  answers = s.answers;
  kept = k;
  exact = λ h. let x = s.exact h in record { memories = x.memories; follows = x.follows };
}

module _ (o : Others) (kept : OthersKeepTypes o) (context : Context) where
  module _ (s : State) (h : HasTypes context s) where
    pub typed_by : HasTypes context (state_by o s)
    typed_by = record {
      locals_are = h.locals_are;
      globals_are = h.globals_are;
      info_is = h.info_is;
      local_values = h.local_values;
      global_values = h.global_values;
      sound = sound_by o s.world kept h.sound;
    }

    given_by : (t : IntegerType) (x : Option ℕ) (cause : Cause) → number_or_trap t x cause (state_by o s) ≡ outcome_in_world o (number_or_trap t x cause s)
    given_by t (Some n) cause = refl
    given_by t None cause = refl

    read_by : (x : Option Value) → read_of x (state_by o s) ≡ outcome_in_world o (read_of x s)
    read_by (Some v) = refl
    read_by None = refl

    answered_by : (a : Answer) (x y : List Value) → x ≡ y → answered a x (state_by o s) ≡ outcome_in_world o (answered a y s)
    answered_by (Gives vs gs r) x y e =
        ap (λ (z : List Value). Ends vs (record s { globals = gs ++ z; rest = r; world = world_by o s.world })) e
    answered_by (Fails cause gs r) x y e = refl

    pub asked_by : (i : Instruction) (vs : List Value) → effect (other i) vs (state_by o s) ≡ outcome_in_world o (effect (other i) vs s)
    asked_by i vs =
        answered_by (s.world.answer i vs (own_globals s) s.rest) _ _
        (others_none typed_by i vs (own_globals s) ∙ sym (others_none h i vs (own_globals s)))

    effect_by : (row : IntegerRow) (vs : List Value) → effect row vs (state_by o s) ≡ outcome_in_world o (effect row vs s)
    effect_by (constant t n) vs = refl
    effect_by (operation f) vs = given_by f.result (f.value (map (λ v. v.number) vs)) (division_trap_cause (map (λ v. v.number) vs))
    effect_by (get (local i)) vs = read_by (slice_get s.locals i)
    effect_by (get (global i)) vs = read_by (slice_get s.globals i)
    effect_by (set x) [] = refl
    effect_by (set (local i)) (v ∷ vs) = refl
    effect_by (set (global i)) (v ∷ vs) = refl
    effect_by (tee x) [] = refl
    effect_by (tee (local i)) (v ∷ vs) = refl
    effect_by (tee (global i)) (v ∷ vs) = refl
    effect_by discard vs = refl
    effect_by select [] = refl
    effect_by select (v ∷ []) = refl
    effect_by select (v ∷ u ∷ []) = refl
    effect_by select (v ∷ u ∷ c ∷ vs) = refl
    effect_by nop vs = refl
    effect_by (other i) vs = asked_by i vs

    pub only_by : (b : Bool) (p q : Outcome) → p ≡ outcome_in_world o q → only_if b p ≡ outcome_in_world o (only_if b q)
    only_by true p q e = e
    only_by false p q e = refl

    act_by : (row : IntegerRow) (vs : List Value) → act row vs (state_by o s) ≡ outcome_in_world o (act row vs s)
    act_by row vs =
        only_by (is_some (row_types (state_context s) row (types vs))) (effect row vs (state_by o s)) (effect row vs s) (effect_by row vs)

    pub above_by : (below : List Value) (q : Outcome) → above below (outcome_in_world o q) ≡ outcome_in_world o (above below q)
    above_by below (Ends vs m) = refl
    above_by below (Traps cause gs r) = refl
    above_by below Stuck = refl

    step_by : (row : IntegerRow) (stack : List Value) → step row stack (state_by o s) ≡ outcome_in_world o (step row stack s)
    step_by row stack =
        let below = length stack - operand_count s.world.info row in
        ap (above (take below stack)) (act_by row (drop below stack)) ∙ above_by (take below stack) (act row (drop below stack) s)

  pub run_by : (code : List Instruction) (stack : List Value) (s : State) → HasTypes context s → All IsValue stack →
      run code stack (state_by o s) ≡ outcome_in_world o (run code stack s)
  run_by [] stack s h a = refl
  run_by (i ∷ code) stack s h a =
      ap (λ x. then_run x (run code)) (step_by s h (integer_row i) stack) ∙
      go (step (integer_row i) stack s) (step_keeps h (integer_row i) stack a) (run_by code)
    where
      go : (q : Outcome) → Keeps context q →
          ((stack : List Value) (s : State) → HasTypes context s → All IsValue stack → run code stack (state_by o s) ≡ outcome_in_world o (run code stack s)) →
          then_run (outcome_in_world o q) (run code) ≡ outcome_in_world o (then_run q (run code))
      go (Ends vs m) k next = next vs m k.1 k.0
      go (Traps cause gs r) k next = refl
      go Stuck k next = refl

  module _ (control : Control) (sound : IsSoundControl context control) (body : List Operator) where
    go_by : (k : ℕ) (labels : List Label) (q : Outcome) → Keeps context q →
        go_on (control k labels) (outcome_in_world o q) ≡ reached_by o (go_on (control k labels) q)
    go_by k labels (Ends vs m) t = sound.alone o k labels vs m kept t.0 t.1
    go_by k labels (Traps cause gs r) t = refl
    go_by k labels Stuck t = refl

    pass_by : (p : Reached) → IsTyped context p → pass control body (reached_by o p) ≡ reached_by o (pass control body p)
    pass_by (At k labels stack s) t =
        ap (go_on (control k labels)) (run_by (piece body k) stack s t.1 t.0) ∙
        go_by k labels (run (piece body k) stack s) (run_keeps context (piece body k) stack s t.1 t.0)
    pass_by (Done q) t = refl

    -- the first is typed, and the second is it in that world
    abbrev Beside : Reached → Reached → Type 0
    Beside p q = IsTyped context p × (q ≡ reached_by o p)

    stands_by : (k : ℕ) (p : Reached) → stands_at p k ≡ stands_at (reached_by o p) k
    stands_by k (At j labels stack s) = refl
    stands_by k (Done q) = refl

    visits_by : (k : ℕ) (p q : Reached) → Beside p q → Beside (visit control body k p) (visit control body k q)
    visits_by k p q h =
        visits_if control control body body Beside k p q (stands_by k p ∙ ap (λ (x : Reached). stands_at x k) (sym h.1)) h
        (pass_typed context control sound body p h.0, ap (pass control body) h.1 ∙ pass_by p h.0)

    pub runs_by : (fuel : ℕ) (p : Reached) → IsTyped context p → runs control body fuel (reached_by o p) ≡ reached_by o (runs control body fuel p)
    runs_by fuel p t = (runs_relate control control body body Beside visits_by refl fuel p (reached_by o p) (t, refl)).1
