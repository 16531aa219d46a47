-- Code runs in a module with more globals as it does where these stand behind the module's own.
use Rattle.std.proofs.Common.{◌≡◌, ℕ, ◌-◌, List, [], ◌∷◌, ◌++◌, length, take, drop, Option, Some, None, refl, sym, ap, ap₂, ◌∙◌, subst, append-nil}
use Rattle.std.specs.Prelude.{◌==◌, map, slice_get, is_some}
use Rattle.std.specs.List.{All}
use Rattle.std.proofs.lemmas.List.{take_at, drop_at, take-map, drop-map, take-append-drop}
use Rattle.std.proofs.lemmas.List.Elements.{All-take, All-drop}
use Rattle.wasm_code.specs.Instruction.{Instruction}
use Rattle.wasm_code.specs.declared.operator.Operator.{Operator}
use Rattle.wasm_types.specs.Module.{Module}
use Rattle.wasm_types.specs.declared.types.PrimitiveTypeInfo.{PrimitiveTypeInfo}
use Rattle.wasm_execution.specs.declared.integer.IntegerType.{IntegerType}
use Rattle.wasm_execution.specs.Values.{other_types, asked_types, Value, IsValue, types, Context, context_in, Cause, World, Answer, Gives}
use Rattle.wasm_execution.specs.Values.{Fails, State, own_globals, further_globals, local, global, HasTypes, Outcome, Ends, Traps, Stuck}
use Rattle.wasm_execution.specs.Values.{then_run, above}
use Rattle.wasm_execution.specs.IntegerRow.{IntegerRow, constant, operation, get, set, tee, discard, select, nop, other, operand_count, row_types, integer_row}
use Rattle.wasm_execution.specs.Machine.{division_trap_cause, number_or_trap, read_of, answered, effect, only_if, state_context, act, step, run}
use Rattle.wasm_execution.specs.Laws.{Keeps}
use Rattle.wasm_execution.specs.StateLemmas.{own_is, others_none}
use Rattle.wasm_execution.specs.TypeLemmas.{asked_of, step_keeps, run_keeps}
use Rattle.wasm_equivalence.specs.control.Function.{piece, Label, Reached, At, Done, Control, go_on, pass, stands_at, visit, runs, IsTyped, IsSoundControl}
use Rattle.wasm_equivalence.specs.control.Wider.{wider_module, wider, state_of, Begins, IsWiderAnswer, IsWiderWorld, IsWiderOutcome}
use Rattle.wasm_equivalence.specs.control.Wider.{IsWiderReached, IsWiderControl}
use Rattle.wasm_equivalence.proofs.control.LapLemmas.{visits_if, runs_relate}
use Rattle.wasm_equivalence.proofs.control.FunctionLemmas.{pass_typed}

-- ---- rows

-- a row's types are the same whatever the module's bytes
types_alike : (input : List ℕ) (more gs : List PrimitiveTypeInfo) (m : Module) (locals : List PrimitiveTypeInfo) (row : IntegerRow)
    (ts : List PrimitiveTypeInfo) →
    row_types (context_in (record m { globals = gs }) locals) row ts ≡
    row_types (context_in (record (wider_module input more m) { globals = gs }) locals) row ts
types_alike input more gs m locals (constant t n) [] = refl
types_alike input more gs m locals (constant t n) (u ∷ us) = refl
types_alike input more gs m locals (operation f) ts = refl
types_alike input more gs m locals (get (local i)) [] = refl
types_alike input more gs m locals (get (global i)) [] = refl
types_alike input more gs m locals (get x) (u ∷ us) = refl
types_alike input more gs m locals (set x) [] = refl
types_alike input more gs m locals (set (local i)) (u ∷ []) = refl
types_alike input more gs m locals (set (global i)) (u ∷ []) = refl
types_alike input more gs m locals (set x) (u ∷ v ∷ us) = refl
types_alike input more gs m locals (tee x) [] = refl
types_alike input more gs m locals (tee (local i)) (u ∷ []) = refl
types_alike input more gs m locals (tee (global i)) (u ∷ []) = refl
types_alike input more gs m locals (tee x) (u ∷ v ∷ us) = refl
types_alike input more gs m locals discard [] = refl
types_alike input more gs m locals discard (u ∷ []) = refl
types_alike input more gs m locals discard (u ∷ v ∷ us) = refl
types_alike input more gs m locals select [] = refl
types_alike input more gs m locals select (t ∷ []) = refl
types_alike input more gs m locals select (t ∷ u ∷ []) = refl
types_alike input more gs m locals select (t ∷ u ∷ c ∷ []) = refl
types_alike input more gs m locals select (t ∷ u ∷ c ∷ v ∷ us) = refl
types_alike input more gs m locals nop [] = refl
types_alike input more gs m locals nop (u ∷ us) = refl
types_alike input more gs m locals (other i) ts = refl

pub count_alike : (input : List ℕ) (more : List PrimitiveTypeInfo) (m : Module) (row : IntegerRow) →
    operand_count m row ≡ operand_count (wider_module input more m) row
count_alike input more m (constant t n) = refl
count_alike input more m (operation f) = refl
count_alike input more m (get x) = refl
count_alike input more m (set x) = refl
count_alike input more m (tee x) = refl
count_alike input more m discard = refl
count_alike input more m select = refl
count_alike input more m nop = refl
count_alike input more m (other i) = refl

-- ---- runs

module _ (input : List ℕ) (more : List PrimitiveTypeInfo) (w v : World) (widens : IsWiderWorld input more w v) (context : Context)
    (at : w.info ≡ context.info) where
  abbrev count : ℕ
  count = length w.info.globals

  module _ (ls gs : List Value) (r : ℕ) (h : HasTypes (wider input more context) (state_of v ls gs r)) where
    abbrev s : State
    s = state_of w ls gs r

    abbrev t : State
    t = state_of v ls gs r

    globals_are : types gs ≡ w.info.globals ++ more
    globals_are = h.globals_are ∙ ap (λ (m : Module). m.globals ++ more) (sym at)

    pub front_types : types (take count gs) ≡ w.info.globals
    front_types = sym (take-map (λ (v : Value). v.type) count gs) ∙ (ap (take count) globals_are ∙ take_at w.info.globals more count refl)

    pub behind_types : types (drop count gs) ≡ more
    behind_types = sym (drop-map (λ (v : Value). v.type) count gs) ∙ (ap (drop count) globals_are ∙ drop_at w.info.globals more count refl)

    pub own_both : own_globals t ≡ take count gs ++ drop count gs
    own_both = own_is h ∙ sym (take-append-drop count gs)

    pub own_begins : Begins (take count gs) (own_globals t)
    own_begins = (drop count gs, own_both)

    given_wider : (i : IntegerType) (o : Option ℕ) (cause : Cause) → IsWiderOutcome w v (number_or_trap i o cause s) (number_or_trap i o cause t)
    given_wider i (Some n) cause = (refl, refl, refl)
    given_wider i None cause = (refl, own_begins, refl)

    read_wider : (o : Option Value) → IsWiderOutcome w v (read_of o s) (read_of o t)
    read_wider (Some x) = (refl, refl, refl)
    read_wider None = tt

    answered_wider : (a b : Answer) (after others : List Value) → others ≡ [] → IsWiderAnswer after a b →
        IsWiderOutcome w v (answered a after s) (answered b others t)
    answered_wider (Gives us hs q) (Gives vs ks p) after others e k = (
      k.0,
      ap₂ (λ (g : List Value) (x : ℕ). state_of v ls g x) (ap (λ (x : List Value). ks ++ x) e ∙ (append-nil ks ∙ k.1)) k.2,
      refl,
    )
    answered_wider (Fails cause hs q) (Fails why ks p) after others e k = (k.0, (after, k.1), k.2)
    answered_wider (Gives us hs q) (Fails why ks p) after others e k = absurd k
    answered_wider (Fails cause hs q) (Gives vs ks p) after others e k = absurd k

    pub asked_wider : (i : Instruction) (vs : List Value) (rs : List PrimitiveTypeInfo) → All IsValue vs → asked_types w.info i (types vs) ≡ Some rs →
        IsWiderOutcome w v (effect (other i) vs s) (effect (other i) vs t)
    asked_wider i vs rs a e =
        let k = widens.answers i rs vs (take count gs) (drop count gs) r e a front_types (All-take IsValue count gs h.global_values) behind_types
        (All-drop IsValue count gs h.global_values) in
        subst (λ (x : List Value). IsWiderOutcome w v (effect (other i) vs s) (answered (v.answer i vs x r) (v.others i vs x r (further_globals t)) t))
        (sym own_both)
        (answered_wider (w.answer i vs (take count gs) r) (v.answer i vs (take count gs ++ drop count gs) r)
        (w.others i vs (take count gs) r (drop count gs)) (v.others i vs (take count gs ++ drop count gs) r (further_globals t))
        (others_none h i vs (take count gs ++ drop count gs)) k)

    effect_wider : (row : IntegerRow) (vs : List Value) (rs : List PrimitiveTypeInfo) → All IsValue vs →
        row_types (state_context t) row (types vs) ≡ Some rs → IsWiderOutcome w v (effect row vs s) (effect row vs t)
    effect_wider (constant i n) vs rs a e = (refl, refl, refl)
    effect_wider (operation f) vs rs a e = given_wider f.result (f.value (map (λ v. v.number) vs)) (division_trap_cause (map (λ v. v.number) vs))
    effect_wider (get (local i)) vs rs a e = read_wider (slice_get ls i)
    effect_wider (get (global i)) vs rs a e = read_wider (slice_get gs i)
    effect_wider (set x) [] rs a e = tt
    effect_wider (set (local i)) (u ∷ vs) rs a e = (refl, refl, refl)
    effect_wider (set (global i)) (u ∷ vs) rs a e = (refl, refl, refl)
    effect_wider (tee x) [] rs a e = tt
    effect_wider (tee (local i)) (u ∷ vs) rs a e = (refl, refl, refl)
    effect_wider (tee (global i)) (u ∷ vs) rs a e = (refl, refl, refl)
    effect_wider discard vs rs a e = (refl, refl, refl)
    effect_wider select [] rs a e = tt
    effect_wider select (x ∷ []) rs a e = tt
    effect_wider select (x ∷ u ∷ []) rs a e = tt
    effect_wider select (x ∷ u ∷ c ∷ vs) rs a e = (refl, refl, refl)
    effect_wider nop vs rs a e = (refl, refl, refl)
    effect_wider (other i) vs rs a e =
        let typed : other_types w.info i (types vs) ≡ Some rs = sym (ap (λ (m : Module). other_types m i (types vs)) widens.info_is) ∙ e in
        asked_wider i vs rs a (asked_of w.info i (types vs) rs typed)

    act_wider : (row : IntegerRow) (vs : List Value) → All IsValue vs → IsWiderOutcome w v (act row vs s) (act row vs t)
    act_wider row vs a =
        subst (λ (o : Option (List PrimitiveTypeInfo)). IsWiderOutcome w v (only_if (is_some o) (effect row vs s)) (act row vs t))
        (sym (types_alike input more (types gs) w.info (types ls) row (types vs) ∙
        ap (λ (m : Module). row_types (context_in (record m { globals = types gs }) (types ls)) row (types vs)) (sym widens.info_is)))
        (go (row_types (state_context t) row (types vs)) refl)
      where
        go : (o : Option (List PrimitiveTypeInfo)) → row_types (state_context t) row (types vs) ≡ o →
            IsWiderOutcome w v (only_if (is_some o) (effect row vs s)) (only_if (is_some o) (effect row vs t))
        go (Some rs) e = effect_wider row vs rs a e
        go None e = tt

  pub above_wider : (below : List Value) (o q : Outcome) → IsWiderOutcome w v o q → IsWiderOutcome w v (above below o) (above below q)
  above_wider below (Ends vs s) (Ends us t) h = (ap (λ (x : List Value). below ++ x) h.0, h.1, h.2)
  above_wider below (Traps cause gs r) (Traps why hs q) h = h
  above_wider below Stuck Stuck h = tt
  above_wider below (Ends vs s) (Traps why hs q) h = absurd h
  above_wider below (Ends vs s) Stuck h = absurd h
  above_wider below (Traps cause gs r) (Ends us t) h = absurd h
  above_wider below (Traps cause gs r) Stuck h = absurd h
  above_wider below Stuck (Ends us t) h = absurd h
  above_wider below Stuck (Traps why hs q) h = absurd h

  step_wider : (row : IntegerRow) (stack ls gs : List Value) (r : ℕ) → All IsValue stack → HasTypes (wider input more context) (state_of v ls gs r) →
      IsWiderOutcome w v (step row stack (state_of w ls gs r)) (step row stack (state_of v ls gs r))
  step_wider row stack ls gs r a h =
      let below = length stack - operand_count w.info row in
      subst (λ k. IsWiderOutcome w v (step row stack (state_of w ls gs r))
      (above (take (length stack - k) stack) (act row (drop (length stack - k) stack) (state_of v ls gs r))))
      (count_alike input more w.info row ∙ ap (λ (m : Module). operand_count m row) (sym widens.info_is))
      (above_wider (take below stack) (act row (drop below stack) (state_of w ls gs r)) (act row (drop below stack) (state_of v ls gs r))
      (act_wider ls gs r h row (drop below stack) (All-drop IsValue below stack a)))

  abbrev RunsWider : List Instruction → Type 0
  RunsWider code = (stack ls gs : List Value) (r : ℕ) → All IsValue stack → HasTypes (wider input more context) (state_of v ls gs r) →
      IsWiderOutcome w v (run code stack (state_of w ls gs r)) (run code stack (state_of v ls gs r))

  then_wider : (code : List Instruction) (o q : Outcome) → RunsWider code → Keeps (wider input more context) q → IsWiderOutcome w v o q →
      IsWiderOutcome w v (then_run o (run code)) (then_run q (run code))
  then_wider code (Ends vs s) (Ends us t) next k h =
      subst (λ (x : List Value × State). IsWiderOutcome w v (run code vs s) (run code x.0 x.1)) (sym (ap₂ (λ (a : List Value) (b : State). (a, b)) h.0 h.1))
      (subst (λ (x : World). IsWiderOutcome w v (run code vs (state_of x s.locals s.globals s.rest)) (run code vs (record s { world = v }))) (sym h.2)
      (next vs s.locals s.globals s.rest (subst (All IsValue) h.0 k.0) (subst (HasTypes (wider input more context)) h.1 k.1)))
  then_wider code (Traps cause gs r) (Traps why hs q) next k h = h
  then_wider code Stuck Stuck next k h = tt
  then_wider code (Ends vs s) (Traps why hs q) next k h = absurd h
  then_wider code (Ends vs s) Stuck next k h = absurd h
  then_wider code (Traps cause gs r) (Ends us t) next k h = absurd h
  then_wider code (Traps cause gs r) Stuck next k h = absurd h
  then_wider code Stuck (Ends us t) next k h = absurd h
  then_wider code Stuck (Traps why hs q) next k h = absurd h

  pub run_wider : (code : List Instruction) → RunsWider code
  run_wider [] stack ls gs r a h = (refl, refl, refl)
  run_wider (i ∷ code) stack ls gs r a h =
      then_wider code (step (integer_row i) stack (state_of w ls gs r)) (step (integer_row i) stack (state_of v ls gs r)) (run_wider code)
      (step_keeps h (integer_row i) stack a) (step_wider (integer_row i) stack ls gs r a h)

  -- ---- functions

  module _ (control other : Control) (wide : IsWiderControl input more context control other) (sound : IsSoundControl (wider input more context) other)
      (body : List Operator) where
    go_wider : (k : ℕ) (labels : List Label) (o q : Outcome) → Keeps (wider input more context) q → IsWiderOutcome w v o q →
        IsWiderReached w v (go_on (control k labels) o) (go_on (other k labels) q)
    go_wider k labels (Ends vs s) (Ends us t) c h =
        subst (λ (x : List Value × State). IsWiderReached w v (control k labels vs s) (other k labels x.0 x.1))
        (sym (ap₂ (λ (a : List Value) (b : State). (a, b)) h.0 h.1))
        (subst (λ (x : World). IsWiderReached w v (control k labels vs (state_of x s.locals s.globals s.rest))
        (other k labels vs (record s { world = v }))) (sym h.2)
        (wide w v widens at k labels vs s.locals s.globals s.rest (subst (All IsValue) h.0 c.0) (subst (HasTypes (wider input more context)) h.1 c.1)))
    go_wider k labels (Traps cause gs r) (Traps why hs q) c h = h
    go_wider k labels Stuck Stuck c h = tt
    go_wider k labels (Ends vs s) (Traps why hs q) c h = absurd h
    go_wider k labels (Ends vs s) Stuck c h = absurd h
    go_wider k labels (Traps cause gs r) (Ends us t) c h = absurd h
    go_wider k labels (Traps cause gs r) Stuck c h = absurd h
    go_wider k labels Stuck (Ends us t) c h = absurd h
    go_wider k labels Stuck (Traps why hs q) c h = absurd h

    at_wider : (k : ℕ) (labels : List Label) (stack : List Value) (s : State) → s.world ≡ w → All IsValue stack →
        HasTypes (wider input more context) (record s { world = v }) →
        IsWiderReached w v (pass control body (At k labels stack s)) (pass other body (At k labels stack (record s { world = v })))
    at_wider k labels stack s e a h =
        subst (λ (x : World). IsWiderReached w v (pass control body (At k labels stack (state_of x s.locals s.globals s.rest)))
        (pass other body (At k labels stack (record s { world = v })))) (sym e)
        (go_wider k labels (run (piece body k) stack (state_of w s.locals s.globals s.rest)) (run (piece body k) stack (record s { world = v }))
        (run_keeps (wider input more context) (piece body k) stack (record s { world = v }) h a)
        (run_wider (piece body k) stack s.locals s.globals s.rest a h))

    pass_wider : (p q : Reached) → IsTyped (wider input more context) q → IsWiderReached w v p q →
        IsWiderReached w v (pass control body p) (pass other body q)
    pass_wider (At k labels stack s) (At j others values t) c h =
        subst (λ (x : ℕ × List Label × List Value × State). IsWiderReached w v (pass control body (At k labels stack s)) (pass other body (At x.0 x.1 x.2 x.3)))
        (sym (ap₂ (λ (a : ℕ × List Label) (b : List Value × State). (a.0, a.1, b.0, b.1)) (ap₂ (λ (a : ℕ) (b : List Label). (a, b)) h.0 h.1)
        (ap₂ (λ (a : List Value) (b : State). (a, b)) h.2 h.3)))
        (at_wider k labels stack s h.4 (subst (All IsValue) h.2 c.0) (subst (HasTypes (wider input more context)) h.3 c.1))
    pass_wider (Done o) (Done q) c h = h
    pass_wider (At k labels stack s) (Done q) c h = absurd h
    pass_wider (Done o) (At j others values t) c h = absurd h

    -- the second is typed, and is the first in its world
    abbrev Across : Reached → Reached → Type 0
    Across p q = IsTyped (wider input more context) q × IsWiderReached w v p q

    stands_wider : (k : ℕ) (p q : Reached) → IsWiderReached w v p q → stands_at p k ≡ stands_at q k
    stands_wider k (At i labels stack s) (At j others values t) h = ap (λ (x : ℕ). x == k) (sym h.0)
    stands_wider k (Done o) (Done q) h = refl
    stands_wider k (At i labels stack s) (Done q) h = absurd h
    stands_wider k (Done o) (At j others values t) h = absurd h

    visits_wider : (k : ℕ) (p q : Reached) → Across p q → Across (visit control body k p) (visit other body k q)
    visits_wider k p q h =
        visits_if control other body body Across k p q (stands_wider k p q h.1) h
        (pass_typed (wider input more context) other sound body q h.0, pass_wider p q h.0 h.1)

    pub runs_wider : (fuel : ℕ) (p q : Reached) → IsTyped (wider input more context) q → IsWiderReached w v p q →
        IsWiderReached w v (runs control body fuel p) (runs other body fuel q)
    runs_wider fuel p q c h = (runs_relate control other body body Across visits_wider refl fuel p q (c, h)).1
