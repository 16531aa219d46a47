-- Code that is not stuck runs the same with further globals behind the module's (this project).
use Rattle.std.proofs.Common.{◌≡◌, ℕ, ◌-◌, List, [], ◌∷◌, ◌++◌, length, take, drop, Option, Some, None, refl, sym, ap, ap₂, ◌∙◌, subst}
use Rattle.std.specs.Prelude.{◌≢◌, map, slice_get, option_and_then, is_some}
use Rattle.std.specs.List.{All}
use Rattle.std.proofs.lemmas.List.{append-nil, take-append-drop}
use Rattle.std.proofs.lemmas.List.Elements.{All-drop}
use Rattle.wasm_code.specs.Instruction.{Instruction}
use Rattle.wasm_types.specs.declared.types.PrimitiveTypeInfo.{PrimitiveTypeInfo}
use Rattle.wasm_execution.specs.Values.{same_type, Value, IsValue, types, Context, World, Answer, Gives, Fails, State, own_globals}
use Rattle.wasm_execution.specs.Values.{further_globals, Variable, local, global, HasTypes, Outcome, Ends, Traps, Stuck, then_run, above}
use Rattle.wasm_execution.specs.IntegerRow.{IntegerRow, constant, operation, get, set, tee, discard, select, nop, other, operand_count}
use Rattle.wasm_execution.specs.IntegerRow.{if_typed, variable_type, row_types, integer_row}
use Rattle.wasm_execution.specs.Machine.{division_trap_cause, number_or_trap, read_of, answered, effect, only_if, state_context, act, step, run}
use Rattle.wasm_execution.specs.Agreement.{with_globals, SameState, SameOutcome, EndsTyped}
use Rattle.wasm_execution.specs.Laws.{Keeps, StaysSame}
use Rattle.wasm_execution.specs.RowLemmas.{and_then_some, act_is}
use Rattle.wasm_execution.specs.StateLemmas.{get_front, set_front, own_is, own_front, further_is, others_none, context_is, context_with}
use Rattle.wasm_execution.specs.StateLemmas.{context_more, with_more, above_more, Follows}
use Rattle.wasm_execution.specs.TypeLemmas.{find_global, step_keeps, run_keeps}

-- ---- types

pub variable_more : (context : Context) (more : List PrimitiveTypeInfo) (x : Variable) (t : PrimitiveTypeInfo) → variable_type context x ≡ Some t →
    variable_type (context_with more context) x ≡ Some t
variable_more context more (local i) t e = e
variable_more context more (global i) t e = get_front context.info.globals more i t e

row_types_more : (context : Context) (more : List PrimitiveTypeInfo) (row : IntegerRow) (ts rs : List PrimitiveTypeInfo) →
    row_types context row ts ≡ Some rs → row_types (context_with more context) row ts ≡ Some rs
row_types_more context more (constant t n) [] rs e = e
row_types_more context more (constant t n) (u ∷ us) rs e = e
row_types_more context more (operation f) ts rs e = e
row_types_more context more (get x) [] rs e =
    let (t, a, b) = and_then_some (λ u. Some (u ∷ [])) (variable_type context x) rs e in
    ap (option_and_then (λ u. Some (u ∷ []))) (variable_more context more x t a) ∙ b
row_types_more context more (get x) (u ∷ us) rs e = e
row_types_more context more (set x) [] rs e = e
row_types_more context more (set x) (u ∷ []) rs e =
    let (t, a, b) = and_then_some (λ t. if_typed (same_type u t) []) (variable_type context x) rs e in
    ap (option_and_then (λ t. if_typed (same_type u t) [])) (variable_more context more x t a) ∙ b
row_types_more context more (set x) (u ∷ v ∷ us) rs e = e
row_types_more context more (tee x) [] rs e = e
row_types_more context more (tee x) (u ∷ []) rs e =
    let (t, a, b) = and_then_some (λ t. if_typed (same_type u t) (u ∷ [])) (variable_type context x) rs e in
    ap (option_and_then (λ t. if_typed (same_type u t) (u ∷ []))) (variable_more context more x t a) ∙ b
row_types_more context more (tee x) (u ∷ v ∷ us) rs e = e
row_types_more context more discard [] rs e = e
row_types_more context more discard (u ∷ []) rs e = e
row_types_more context more discard (u ∷ v ∷ us) rs e = e
row_types_more context more select [] rs e = e
row_types_more context more select (t ∷ []) rs e = e
row_types_more context more select (t ∷ u ∷ []) rs e = e
row_types_more context more select (t ∷ u ∷ c ∷ []) rs e = e
row_types_more context more select (t ∷ u ∷ c ∷ v ∷ us) rs e = e
row_types_more context more nop [] rs e = e
row_types_more context more nop (u ∷ us) rs e = e
row_types_more context more (other i) ts rs e = e

-- ---- one row

module _ {context : Context} {s : State} (h : HasTypes context s) (more : List Value) where
  abbrev m : State
  m = with_globals more s

  read_more : (o : Option Value) → read_of o m ≡ with_more more (read_of o s)
  read_more (Some v) = refl
  read_more None = refl

  answered_more : (i : Instruction) (o : Answer) (others after : List Value) → others ≡ [] → answered o after m ≡ with_more after (answered o others s)
  answered_more i (Gives us gs r) others after e =
      ap (λ (x : List Value). Ends us (record s { globals = x; rest = r }))
      (ap (λ (x : List Value). x ++ after) (sym (append-nil gs)) ∙ ap (λ (x : List Value). (gs ++ x) ++ after) (sym e))
  answered_more i (Fails c gs r) others after e = refl

  pub asked_follows : (i : Instruction) (vs : List Value) → Follows more (effect (other i) vs s) (effect (other i) vs m)
  asked_follows i vs =
      let after = s.world.others i vs (own_globals m) s.rest (further_globals m) in (
        after,
        h.sound.kept i vs (own_globals m) s.rest (further_globals m) ∙ ap types (further_is h more),
        ap (λ gs. answered (s.world.answer i vs gs s.rest) after m) (own_front h more ∙ sym (own_is h)) ∙
            answered_more i (s.world.answer i vs (own_globals s) s.rest) _ after (others_none h i vs (own_globals s)),
      )

  effect_follows : (row : IntegerRow) (vs : List Value) (rs : List PrimitiveTypeInfo) → All IsValue vs →
      row_types context row (types vs) ≡ Some rs → Follows more (effect row vs s) (effect row vs m)
  effect_follows (constant t n) vs rs hv e = (more, refl, refl)
  effect_follows (operation f) vs rs hv e = (more, refl, go (f.value (map (λ v. v.number) vs)))
    where
      go : (o : Option ℕ) → number_or_trap f.result o (division_trap_cause (map (λ v. v.number) vs)) m
          ≡ with_more more (number_or_trap f.result o (division_trap_cause (map (λ v. v.number) vs)) s)
      go (Some n) = refl
      go None = ap (λ gs. Traps (division_trap_cause (map (λ v. v.number) vs)) gs s.rest) (own_front h more ∙ sym (own_is h))
  effect_follows (get (local i)) vs rs hv e = (more, refl, read_more (slice_get s.locals i))
  effect_follows (get (global i)) [] rs hv e =
      let (t, a, b) = and_then_some (λ u. Some (u ∷ [])) (variable_type context (global i)) rs e in
      let f = find_global h i t a in
      (more, refl, ap (λ o. read_of o m) (get_front s.globals more i f.value f.reads ∙ sym f.reads) ∙ read_more (slice_get s.globals i))
  effect_follows (get (global i)) (v ∷ vs) rs hv e = absurd cc
  effect_follows (set x) [] rs hv e = absurd cc
  effect_follows (set (local i)) (v ∷ vs) rs hv e = (more, refl, refl)
  effect_follows (set (global i)) (v ∷ []) rs hv e =
      let (t, a, b) = and_then_some (λ u. if_typed (same_type v.type u) []) (variable_type context (global i)) rs e in
      let f = find_global h i t a in
      (more, refl, ap (λ (gs : List Value). Ends [] (record s { globals = gs })) (set_front s.globals more i f.value v f.reads))
  effect_follows (set (global i)) (v ∷ u ∷ vs) rs hv e = absurd cc
  effect_follows (tee x) [] rs hv e = absurd cc
  effect_follows (tee (local i)) (v ∷ vs) rs hv e = (more, refl, refl)
  effect_follows (tee (global i)) (v ∷ []) rs hv e =
      let (t, a, b) = and_then_some (λ u. if_typed (same_type v.type u) (v.type ∷ [])) (variable_type context (global i)) rs e in
      let f = find_global h i t a in
      (more, refl, ap (λ (gs : List Value). Ends (v ∷ []) (record s { globals = gs })) (set_front s.globals more i f.value v f.reads))
  effect_follows (tee (global i)) (v ∷ u ∷ vs) rs hv e = absurd cc
  effect_follows discard vs rs hv e = (more, refl, refl)
  effect_follows select [] rs hv e = absurd cc
  effect_follows select (v ∷ []) rs hv e = absurd cc
  effect_follows select (v ∷ u ∷ []) rs hv e = absurd cc
  effect_follows select (v ∷ u ∷ c ∷ vs) rs hv e = (more, refl, refl)
  effect_follows nop vs rs hv e = (more, refl, refl)
  effect_follows (other i) vs rs hv e = asked_follows i vs

  pub act_follows : (row : IntegerRow) (vs : List Value) (rs : List PrimitiveTypeInfo) → All IsValue vs →
      row_types context row (types vs) ≡ Some rs → Follows more (act row vs s) (act row vs m)
  act_follows row vs rs hv e =
      let f = effect_follows row vs rs hv e in (
        f.0,
        f.1,
        act_is row vs rs m (ap (λ c. row_types c row (types vs)) (context_more h more) ∙ row_types_more context (types more) row (types vs) rs e) ∙
            (f.2 ∙ ap (with_more f.0) (sym (act_is row vs rs s (ap (λ c. row_types c row (types vs)) (context_is h) ∙ e)))),
      )

  pub step_follows : (row : IntegerRow) (stack : List Value) → All IsValue stack → step row stack s ≢ Stuck →
      Follows more (step row stack s) (step row stack m)
  step_follows row stack hs n =
      let below = length stack - operand_count s.world.info row in
      go below (drop below stack) (All-drop IsValue below stack hs) (row_types (state_context s) row (types (drop below stack))) refl n
    where
      go : (below : ℕ) (ops : List Value) → All IsValue ops → (o : Option (List PrimitiveTypeInfo)) →
          row_types (state_context s) row (types ops) ≡ o → above (take below stack) (act row ops s) ≢ Stuck →
          Follows more (above (take below stack) (act row ops s)) (above (take below stack) (act row ops m))
      go below ops ho (Some rs) e n =
          let f = act_follows row ops rs ho (sym (ap (λ c. row_types c row (types ops)) (context_is h)) ∙ e) in
          (f.0, f.1, ap (above (take below stack)) f.2 ∙ above_more (take below stack) f.0 (act row ops s))
      go below ops ho None e n = absurd (n (ap (λ o. above (take below stack) (only_if (is_some o) (effect row ops s))) e))

-- ---- runs

pub then_follows_run : (context : Context) (more : List Value) (code : List Instruction) (o r : Outcome) → Keeps context o → Follows more o r →
    then_run o (run code) ≢ Stuck →
    ((more stack : List Value) (s : State) → HasTypes context s → All IsValue stack → run code stack s ≢ Stuck →
    Follows more (run code stack s) (run code stack (with_globals more s))) →
    Follows more (then_run o (run code)) (then_run r (run code))
then_follows_run context more code o r k f n next =
    let g = go o k n in (g.0, g.1 ∙ f.1, ap (λ x. then_run x (run code)) f.2 ∙ g.2)
  where
    go : (o : Outcome) → Keeps context o → then_run o (run code) ≢ Stuck →
        Follows f.0 (then_run o (run code)) (then_run (with_more f.0 o) (run code))
    go (Ends vs s) k n = next f.0 vs s k.1 k.0 n
    go (Traps c gs r) k n = (f.0, refl, refl)
    go Stuck k n = (f.0, refl, refl)

pub then_stuck : (f : List Value → State → Outcome) (o : Outcome) → then_run o f ≢ Stuck → o ≢ Stuck
then_stuck f o n e = n (ap (λ x. then_run x f) e)

pub run_follows : (context : Context) (code : List Instruction) (more stack : List Value) (s : State) → HasTypes context s →
    All IsValue stack → run code stack s ≢ Stuck → Follows more (run code stack s) (run code stack (with_globals more s))
run_follows context [] more stack s h hs n = (more, refl, refl)
run_follows context (i ∷ code) more stack s h hs n =
    let row = integer_row i in
    then_follows_run context more code (step row stack s) (step row stack (with_globals more s)) (step_keeps h row stack hs)
    (step_follows h more row stack hs (then_stuck (run code) (step row stack s) n)) n (run_follows context code)

-- ---- outcomes that are the same

-- a state that is the same as one of the context's types is this with further globals
pub state_more : (context : Context) (s m : State) → HasTypes context s → SameState s m → m ≡ with_globals (further_globals m) s
state_more context s m h same =
    let own : s.globals ≡ own_globals m = sym (own_is h) ∙ same.1 in
    let all : m.globals ≡ s.globals ++ further_globals m =
    sym (take-append-drop (length m.world.info.globals) m.globals) ∙ ap (λ (gs : List Value). gs ++ further_globals m) (sym own) in
    ap₂ (λ (ls : List Value) (x : List Value × ℕ × World). record { locals = ls; globals = x.0; rest = x.1; world = x.2 }) (sym same.0)
    (ap₂ (λ (gs : List Value) (x : ℕ × World). (gs, x.0, x.1)) all (ap₂ (λ (r : ℕ) (w : World). (r, w)) (sym same.2) (sym same.3)))

-- with any globals behind
pub more_same : (context : Context) (more others : List Value) (o : Outcome) → Keeps context o → o ≢ Stuck →
    SameOutcome (with_more more o) (with_more others o)
more_same context more others (Ends vs s) k n = (refl, (refl, own_front k.1 more ∙ sym (own_front k.1 others), refl, refl))
more_same context more others (Traps c gs r) k n = (refl, refl, refl)
more_same context more others Stuck k n = absurd (n refl)

pub same_more : (context : Context) (more : List Value) (o : Outcome) → Keeps context o → o ≢ Stuck → SameOutcome o (with_more more o)
same_more context more (Ends vs s) k n = (refl, (refl, own_is k.1 ∙ sym (own_front k.1 more), refl, refl))
same_more context more (Traps c gs r) k n = (refl, refl, refl)
same_more context more Stuck k n = absurd (n refl)

-- outcomes that are the same, both in states of the context's types, are equal
pub same_is : (context : Context) (ts us : List PrimitiveTypeInfo) (o r : Outcome) → EndsTyped context ts o → EndsTyped context us r →
    SameOutcome o r → o ≡ r
same_is context ts us (Ends vs s) (Ends ws m) h k same =
    let own : s.globals ≡ m.globals = sym (own_is h.2) ∙ (same.1.1 ∙ own_is k.2) in
    ap₂ (λ (x : List Value × List Value) (y : List Value × ℕ × World).
    Ends x.0 (record { locals = x.1; globals = y.0; rest = y.1; world = y.2 }))
    (ap₂ (λ (a : List Value) (b : List Value). (a, b)) same.0 same.1.0)
    (ap₂ (λ (gs : List Value) (x : ℕ × World). (gs, x.0, x.1)) own (ap₂ (λ (r : ℕ) (w : World). (r, w)) same.1.2 same.1.3))
same_is context ts us (Traps c gs r) (Traps d hs q) h k same =
    ap₂ (λ x (y : List Value × ℕ). Traps x y.0 y.1) same.0 (ap₂ (λ (a : List Value) (b : ℕ). (a, b)) same.1 same.2)
same_is context ts us (Ends vs s) (Traps d hs q) h k same = absurd same
same_is context ts us (Ends vs s) Stuck h k same = absurd same
same_is context ts us (Traps c gs r) (Ends ws m) h k same = absurd same
same_is context ts us (Traps c gs r) Stuck h k same = absurd same
same_is context ts us Stuck r h k same = absurd h

pub stays_same : StaysSame
stays_same context code (Ends vs s) (Ends us m) k same n =
    let more = further_globals m in
    let f = run_follows context code more vs s k.1 k.0 n in
    let it : run code us m ≡ with_more f.0 (run code vs s) = ap₂ (run code) (sym same.0) (state_more context s m k.1 same.1) ∙ f.2 in
    subst (SameOutcome (run code vs s)) (sym it) (same_more context f.0 (run code vs s) (run_keeps context code vs s k.1 k.0) n)
stays_same context code (Traps c gs r) (Traps d hs q) k same n = same
stays_same context code (Ends vs s) (Traps d hs q) k same n = absurd same
stays_same context code (Ends vs s) Stuck k same n = absurd same
stays_same context code (Traps c gs r) (Ends us m) k same n = absurd same
stays_same context code (Traps c gs r) Stuck k same n = absurd same
stays_same context code Stuck r k same n = absurd same
