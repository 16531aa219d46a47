-- Code that names a context's variables alone, and code of integer rows alone.
use Rattle.std.proofs.Common.{◌≡◌, ℕ, ◌-◌, Bool, true, false, List, [], ◌∷◌, length, take, drop, Option, Some, None, refl, sym, ap, ap₂, ◌∙◌, subst}
use Rattle.std.specs.Prelude.{◌≢◌, ⊤, map, option_and_then, is_some, IsSome}
use Rattle.std.specs.List.{All}
use Rattle.std.proofs.lemmas.Bool.{false≢true}
use Rattle.std.proofs.lemmas.List.Elements.{All-head, All-tail, All-drop}
use Rattle.wasm_code.specs.Instruction.{Instruction}
use Rattle.wasm_types.specs.Module.{Module}
use Rattle.wasm_types.specs.declared.types.PrimitiveTypeInfo.{PrimitiveTypeInfo}
use Rattle.wasm_execution.specs.Values.{Cause, same_type, Value, IsValue, types, Context, World, State, Variable, local, global, read}
use Rattle.wasm_execution.specs.Values.{HasTypes, Outcome, Ends, Traps, Stuck, then_run, above}
use Rattle.wasm_execution.specs.Integer.{IntegerOperator}
use Rattle.wasm_execution.specs.IntegerRow.{IntegerRow, constant, operation, get, set, tee, discard, select, nop, other, operand_count}
use Rattle.wasm_execution.specs.IntegerRow.{if_typed, variable_type, row_types, integer_row}
use Rattle.wasm_execution.specs.Machine.{division_trap_cause, number_or_trap, read_of, effect, only_if, state_context, act, step, run}
use Rattle.wasm_execution.specs.Agreement.{with_globals}
use Rattle.wasm_execution.specs.Laws.{Keeps, NamesIn, IsFreeAlone, IsIntegerRow, in_world, ends_in_world, AskNoWorld}
use Rattle.wasm_execution.specs.StateLemmas.{context_with, context_more, with_more}
use Rattle.wasm_execution.specs.TypeLemmas.{act_typed, not_stuck, step_keeps}
use Rattle.wasm_execution.specs.SameLemmas.{variable_more, step_follows, then_stuck}

-- ---- a context's variables

its : (o : Option PrimitiveTypeInfo) → IsSome o → (t : PrimitiveTypeInfo) × (o ≡ Some t)
its (Some t) h = (t, refl)
its None h = absurd (false≢true h)

variable_named : (context : Context) (more : List PrimitiveTypeInfo) (x : Variable) → IsSome (variable_type context x) →
    variable_type (context_with more context) x ≡ variable_type context x
variable_named context more x h = let (t, e) = its (variable_type context x) h in variable_more context more x t e ∙ sym e

types_named : (context : Context) (more : List PrimitiveTypeInfo) (row : IntegerRow) (ts : List PrimitiveTypeInfo) → NamesIn context row →
    row_types (context_with more context) row ts ≡ row_types context row ts
types_named context more (constant t n) [] h = refl
types_named context more (constant t n) (u ∷ us) h = refl
types_named context more (operation f) ts h = refl
types_named context more (get x) [] h = ap (option_and_then (λ u. Some (u ∷ []))) (variable_named context more x h)
types_named context more (get x) (u ∷ us) h = refl
types_named context more (set x) [] h = refl
types_named context more (set x) (u ∷ []) h = ap (option_and_then (λ t. if_typed (same_type u t) [])) (variable_named context more x h)
types_named context more (set x) (u ∷ v ∷ us) h = refl
types_named context more (tee x) [] h = refl
types_named context more (tee x) (u ∷ []) h = ap (option_and_then (λ t. if_typed (same_type u t) (u ∷ []))) (variable_named context more x h)
types_named context more (tee x) (u ∷ v ∷ us) h = refl
types_named context more discard [] h = refl
types_named context more discard (u ∷ []) h = refl
types_named context more discard (u ∷ v ∷ us) h = refl
types_named context more select [] h = refl
types_named context more select (t ∷ []) h = refl
types_named context more select (t ∷ u ∷ []) h = refl
types_named context more select (t ∷ u ∷ c ∷ []) h = refl
types_named context more select (t ∷ u ∷ c ∷ v ∷ us) h = refl
types_named context more nop [] h = refl
types_named context more nop (u ∷ us) h = refl
types_named context more (other i) ts h = refl

ends_not : (a : List Value) (o : Outcome) → above a o ≡ Stuck → o ≡ Stuck
ends_not a (Ends vs m) e = absurd cc
ends_not a (Traps c gs r) e = absurd cc
ends_not a Stuck e = refl

-- where the row's step is stuck, it is so with further globals
step_free : (context : Context) (row : IntegerRow) (stack more : List Value) (s : State) → HasTypes context s → All IsValue stack → NamesIn context row →
    step row stack (with_globals more s) ≢ Stuck → step row stack s ≢ Stuck
step_free context row stack more s h hs names n e =
    let below = length stack - operand_count s.world.info row in
    go (drop below stack) (take below stack) (All-drop IsValue below stack hs) (row_types context row (types (drop below stack))) refl e n
  where
    go : (ops rest : List Value) → All IsValue ops → (o : Option (List PrimitiveTypeInfo)) → row_types context row (types ops) ≡ o →
        above rest (act row ops s) ≡ Stuck → above rest (act row ops (with_globals more s)) ≢ Stuck → ⊥
    go ops rest ho None k e n =
        n (ap (λ o. above rest (only_if (is_some o) (effect row ops (with_globals more s))))
        (ap (λ c. row_types c row (types ops)) (context_more h more) ∙ (types_named context (types more) row (types ops) names ∙ k)))
    go ops rest ho (Some rs) k e n = not_stuck context rs (act row ops s) (act_typed h row ops rs ho k) (ends_not rest (act row ops s) e)

pub free_alone : IsFreeAlone
free_alone context [] stack more s h hs names n = λ e. cc
free_alone context (i ∷ code) stack more s h hs names n =
    let row = integer_row i in
    let P = λ (i : Instruction). NamesIn context (integer_row i) in
    let moved : step row stack (with_globals more s) ≢ Stuck = then_stuck (run code) (step row stack (with_globals more s)) n in
    let free : step row stack s ≢ Stuck = step_free context row stack more s h hs (All-head P i code names) moved in
    let f = step_follows h more row stack hs free in
    go f.0 (step row stack s) (step_keeps h row stack hs) free (subst (λ o. then_run o (run code) ≢ Stuck) f.2 n) (free_alone context code)
    (All-tail P i code names)
  where
    go : (after : List Value) (o : Outcome) → Keeps context o → o ≢ Stuck → then_run (with_more after o) (run code) ≢ Stuck →
        ((stack more : List Value) (s : State) → HasTypes context s → All IsValue stack → All (λ i. NamesIn context (integer_row i)) code →
        run code stack (with_globals more s) ≢ Stuck → run code stack s ≢ Stuck) → All (λ i. NamesIn context (integer_row i)) code →
        then_run o (run code) ≢ Stuck
    go after (Ends vs m) k f n next names = next vs after m k.1 k.0 names n
    go after (Traps c gs r) k f n next names = λ e. cc
    go after Stuck k f n next names = absurd (f refl)

-- ---- integer rows

-- where it ends, in a world of the module
abbrev InModule : Module → Outcome → Type 0
InModule info (Ends vs m) = m.world.info ≡ info
InModule info (Traps c gs r) = ⊤
InModule info Stuck = ⊤

module _ (rest : ℕ) (w : World) where
  given_moved : (s : State) → w.info ≡ s.world.info → (f : IntegerOperator) (o : Option ℕ) (cause : Cause) →
      number_or_trap f.result o cause (in_world rest w s) ≡ ends_in_world rest w (number_or_trap f.result o cause s)
  given_moved s e f (Some n) cause = refl
  given_moved s e f None cause = ap (λ (m : Module). Traps cause (take (length m.globals) s.globals) rest) e

  read_moved : (s : State) (o : Option Value) → read_of o (in_world rest w s) ≡ ends_in_world rest w (read_of o s)
  read_moved s (Some v) = refl
  read_moved s None = refl

  effect_moved : (row : IntegerRow) (vs : List Value) (s : State) → w.info ≡ s.world.info → IsIntegerRow row →
      effect row vs (in_world rest w s) ≡ ends_in_world rest w (effect row vs s)
  effect_moved (constant t n) vs s e k = refl
  effect_moved (operation f) vs s e k = given_moved s e f (f.value (map (λ v. v.number) vs)) (division_trap_cause (map (λ v. v.number) vs))
  effect_moved (get (local i)) vs s e k = read_moved s (read (local i) s)
  effect_moved (get (global i)) vs s e k = read_moved s (read (global i) s)
  effect_moved (set x) [] s e k = refl
  effect_moved (set (local i)) (v ∷ vs) s e k = refl
  effect_moved (set (global i)) (v ∷ vs) s e k = refl
  effect_moved (tee x) [] s e k = refl
  effect_moved (tee (local i)) (v ∷ vs) s e k = refl
  effect_moved (tee (global i)) (v ∷ vs) s e k = refl
  effect_moved discard vs s e k = refl
  effect_moved select [] s e k = refl
  effect_moved select (v ∷ []) s e k = refl
  effect_moved select (v ∷ u ∷ []) s e k = refl
  effect_moved select (v ∷ u ∷ c ∷ vs) s e k = refl
  effect_moved nop vs s e k = refl
  effect_moved (other i) vs s e k = absurd k

  only_moved : (b : Bool) (o : Outcome) → only_if b (ends_in_world rest w o) ≡ ends_in_world rest w (only_if b o)
  only_moved true o = refl
  only_moved false o = refl

  context_moved : (s : State) → w.info ≡ s.world.info → state_context (in_world rest w s) ≡ state_context s
  context_moved s e = ap (λ (m : Module). record { info = record m { globals = types s.globals }; locals = types s.locals }) e

  act_moved : (row : IntegerRow) (vs : List Value) (s : State) → w.info ≡ s.world.info → IsIntegerRow row →
      act row vs (in_world rest w s) ≡ ends_in_world rest w (act row vs s)
  act_moved row vs s e k =
      ap₂ (λ (c : Context) o. only_if (is_some (row_types c row (types vs))) o) (context_moved s e) (effect_moved row vs s e k) ∙
      only_moved (is_some (row_types (state_context s) row (types vs))) (effect row vs s)

  above_moved : (a : List Value) (o : Outcome) → above a (ends_in_world rest w o) ≡ ends_in_world rest w (above a o)
  above_moved a (Ends vs m) = refl
  above_moved a (Traps c gs r) = refl
  above_moved a Stuck = refl

  step_moved : (row : IntegerRow) (stack : List Value) (s : State) → w.info ≡ s.world.info → IsIntegerRow row →
      step row stack (in_world rest w s) ≡ ends_in_world rest w (step row stack s)
  step_moved row stack s e k =
      ap (λ (m : Module). let below = length stack - operand_count m row in above (take below stack) (act row (drop below stack) (in_world rest w s))) e ∙
      (let below = length stack - operand_count s.world.info row in
      ap (above (take below stack)) (act_moved row (drop below stack) s e k) ∙ above_moved (take below stack) (act row (drop below stack) s))

  -- the module stays
  effect_stays : (row : IntegerRow) (vs : List Value) (s : State) → IsIntegerRow row → InModule s.world.info (effect row vs s)
  effect_stays (constant t n) vs s k = refl
  effect_stays (operation f) vs s k = go (f.value (map (λ v. v.number) vs))
    where
      go : (o : Option ℕ) → InModule s.world.info (number_or_trap f.result o (division_trap_cause (map (λ v. v.number) vs)) s)
      go (Some n) = refl
      go None = tt
  effect_stays (get x) vs s k = go (read x s)
    where
      go : (o : Option Value) → InModule s.world.info (read_of o s)
      go (Some v) = refl
      go None = tt
  effect_stays (set x) [] s k = tt
  effect_stays (set (local i)) (v ∷ vs) s k = refl
  effect_stays (set (global i)) (v ∷ vs) s k = refl
  effect_stays (tee x) [] s k = tt
  effect_stays (tee (local i)) (v ∷ vs) s k = refl
  effect_stays (tee (global i)) (v ∷ vs) s k = refl
  effect_stays discard vs s k = refl
  effect_stays select [] s k = tt
  effect_stays select (v ∷ []) s k = tt
  effect_stays select (v ∷ u ∷ []) s k = tt
  effect_stays select (v ∷ u ∷ c ∷ vs) s k = refl
  effect_stays nop vs s k = refl
  effect_stays (other i) vs s k = absurd k

  only_stays : (info : Module) (b : Bool) (o : Outcome) → InModule info o → InModule info (only_if b o)
  only_stays info true o h = h
  only_stays info false o h = tt

  above_stays : (info : Module) (a : List Value) (o : Outcome) → InModule info o → InModule info (above a o)
  above_stays info a (Ends vs m) h = h
  above_stays info a (Traps c gs r) h = h
  above_stays info a Stuck h = h

  run_moved : (code : List Instruction) (stack : List Value) (s : State) → w.info ≡ s.world.info → All (λ i. IsIntegerRow (integer_row i)) code →
      run code stack (in_world rest w s) ≡ ends_in_world rest w (run code stack s)
  run_moved [] stack s e all = refl
  run_moved (i ∷ code) stack s e all =
      let row = integer_row i in
      let P = λ (i : Instruction). IsIntegerRow (integer_row i) in
      let own = All-head P i code all in
      let below = length stack - operand_count s.world.info row in
      let stays = above_stays s.world.info (take below stack) (act row (drop below stack) s)
      (only_stays s.world.info _ (effect row (drop below stack) s) (effect_stays row (drop below stack) s own)) in
      ap (λ o. then_run o (run code)) (step_moved row stack s e own) ∙ go (step row stack s) stays (run_moved code) (All-tail P i code all)
    where
      go : (o : Outcome) → InModule s.world.info o →
          ((stack : List Value) (m : State) → w.info ≡ m.world.info → All (λ i. IsIntegerRow (integer_row i)) code →
          run code stack (in_world rest w m) ≡ ends_in_world rest w (run code stack m)) → All (λ i. IsIntegerRow (integer_row i)) code →
          then_run (ends_in_world rest w o) (run code) ≡ ends_in_world rest w (then_run o (run code))
      go (Ends vs m) h next all = next vs m (e ∙ sym h) all
      go (Traps c gs r) h next all = refl
      go Stuck h next all = refl

pub ask_no_world : AskNoWorld
ask_no_world code stack s rest w e all = run_moved rest w code stack s e all
