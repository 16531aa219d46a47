-- A typed row is never stuck, and leaves values of its types in a state of the context's types (this project).
use Rattle.std.proofs.Common.{◌≡◌, ℕ, zero, suc, ◌-◌, Bool, true, false, List, [], ◌∷◌, ◌++◌, length, Option, Some, None, refl, sym, ap, ap₂, ◌∙◌, subst, arith}
use Rattle.std.specs.Prelude.{◌&&◌, ◌==◌, ◌≢◌, map, take, drop, set as slice_set, slice_get, option_map, option_and_then, is_some, if◌then◌else◌}
use Rattle.std.specs.List.{All}
use Rattle.std.proofs.lemmas.Bool.{and_parts}
use Rattle.std.proofs.lemmas.List.{append-nil}
use Rattle.std.proofs.lemmas.List.Elements.{All-nil, All-cons, All-head, All-tail, All-append, All-set, All-take, All-drop}
use Rattle.std.proofs.lemmas.Option.{slice_get-map}
use Rattle.std.proofs.Math.Nat.{mod-lt}
use Rattle.wasm_code.specs.Instruction.{Instruction}
use Rattle.wasm_types.specs.Module.{Module}
use Rattle.wasm_types.specs.declared.types.PrimitiveTypeInfo.{PrimitiveTypeInfo}
use Rattle.wasm_types.specs.declared.types.PrimitiveTypeInfo.TheVariants as primitive
use Rattle.wasm_execution.specs.declared.integer.IntegerType.TheVariants as integer
use Rattle.wasm_execution.specs.Values.{IntegerType, same_type, same_types, other_types, foreign_in, function_results, or_else, asked_types}
use Rattle.wasm_execution.specs.Values.{Value, IsValue, whole, types, Context, Answer, Gives, Fails, State, own_globals, Variable, local}
use Rattle.wasm_execution.specs.Values.{global, read, write, IsAnswer, HasTypes, Outcome, Ends, Traps, Stuck, then_run, above}
use Rattle.wasm_execution.specs.IntegerRow.{IntegerRow, constant, operation, get, set, tee, discard, select, nop, other, operand_count}
use Rattle.wasm_execution.specs.IntegerRow.{if_typed, variable_type, is_numeric, row_types, integer_row}
use Rattle.wasm_execution.specs.Machine.{division_trap_cause, number_or_trap, read_of, answered, effect, only_if, state_context, act, step, run}
use Rattle.wasm_execution.specs.Agreement.{EndsTyped}
use Rattle.wasm_execution.specs.Laws.{Keeps}
use Rattle.wasm_execution.specs.OutcomeLemmas.{types_append}
use Rattle.wasm_execution.specs.RowLemmas.{some_if, and_then_some, same_type_is, act_is}
use Rattle.wasm_execution.specs.StateLemmas.{own_types_are, own_is, others_none, context_is}

-- ---- values

pub whole_is : (t : IntegerType) (n : ℕ) → IsValue (whole t n)
whole_is integer.I32 n = mod-lt n (omega arith)
whole_is integer.I64 n = mod-lt n (omega arith)

pub one : (v : Value) → IsValue v → All IsValue (v ∷ [])
one v h = All-cons IsValue v [] h (All-nil IsValue)

-- an instruction's types are those that a world is asked for
pub asked_of : (info : Module) (i : Instruction) (ts rs : List PrimitiveTypeInfo) → other_types info i ts ≡ Some rs → asked_types info i ts ≡ Some rs
asked_of info i ts rs e =
    ap (λ o. or_else o (option_and_then (function_results ts) (option_and_then (slice_get info.types) (foreign_in i.row i.imm)))) e

-- ---- variables

-- the value at an index
pub record FoundAt (vs : List Value) (i : ℕ) (t : PrimitiveTypeInfo) : Type 0 where
  pub value : Value
  pub reads : slice_get vs i ≡ Some value
  pub typed : value.type ≡ t
  pub whole_is : IsValue value

value_at : (vs : List Value) (i : ℕ) (v : Value) → All IsValue vs → slice_get vs i ≡ Some v → IsValue v
value_at [] i v h e = absurd cc
value_at (u ∷ vs) zero v h e = let k : u ≡ v = cc in subst IsValue k (All-head IsValue u vs h)
value_at (u ∷ vs) (suc i) v h e = value_at vs i v (All-tail IsValue u vs h) e

pub find_at : (vs : List Value) (i : ℕ) (t : PrimitiveTypeInfo) → All IsValue vs → slice_get (types vs) i ≡ Some t → FoundAt vs i t
find_at vs i t h e = go (slice_get vs i) refl (sym (slice_get-map (λ v. v.type) vs i) ∙ e)
  where
    go : (o : Option Value) → slice_get vs i ≡ o → option_map (λ v. v.type) o ≡ Some t → FoundAt vs i t
    go None e k = absurd cc
    go (Some v) e k = record { value = v; reads = e; typed = cc; whole_is = value_at vs i v h e }

types_set : (vs : List Value) (i : ℕ) (v u : Value) → slice_get vs i ≡ Some u → u.type ≡ v.type → types (slice_set vs i v) ≡ types vs
types_set [] i v u e t = refl
types_set (w ∷ vs) zero v u e t = let k : w ≡ u = cc in ap (λ x. x ∷ types vs) (sym t ∙ sym (ap (λ z. z.type) k))
types_set (w ∷ vs) (suc i) v u e t = ap (λ x. w.type ∷ x) (types_set vs i v u e t)

module _ {context : Context} {s : State} (h : HasTypes context s) where
  pub find_local : (i : ℕ) (t : PrimitiveTypeInfo) → variable_type context (local i) ≡ Some t → FoundAt s.locals i t
  find_local i t e = find_at s.locals i t h.local_values (ap (λ ts. slice_get ts i) h.locals_are ∙ e)

  pub find_global : (i : ℕ) (t : PrimitiveTypeInfo) → variable_type context (global i) ≡ Some t → FoundAt s.globals i t
  find_global i t e = find_at s.globals i t h.global_values (ap (λ ts. slice_get ts i) h.globals_are ∙ e)

  read_typed : (x : Variable) (t : PrimitiveTypeInfo) → variable_type context x ≡ Some t → EndsTyped context (t ∷ []) (read_of (read x s) s)
  read_typed (local i) t e =
      let f = find_local i t e in
      subst (λ o. EndsTyped context (t ∷ []) (read_of o s)) (sym f.reads) (ap (λ u. u ∷ []) f.typed, one f.value f.whole_is, h)
  read_typed (global i) t e =
      let f = find_global i t e in
      subst (λ o. EndsTyped context (t ∷ []) (read_of o s)) (sym f.reads) (ap (λ u. u ∷ []) f.typed, one f.value f.whole_is, h)

  pub write_typed : (x : Variable) (v : Value) → IsValue v → variable_type context x ≡ Some v.type → HasTypes context (write x v s)
  write_typed (local i) v k e =
      let f = find_local i v.type e in
      record {
        locals_are = types_set s.locals i v f.value f.reads f.typed ∙ h.locals_are;
        globals_are = h.globals_are;
        info_is = h.info_is;
        local_values = All-set IsValue s.locals i v k h.local_values;
        global_values = h.global_values;
        sound = h.sound;
      }
  write_typed (global i) v k e =
      let f = find_global i v.type e in
      record {
        locals_are = h.locals_are;
        globals_are = types_set s.globals i v f.value f.reads f.typed ∙ h.globals_are;
        info_is = h.info_is;
        local_values = h.local_values;
        global_values = All-set IsValue s.globals i v k h.global_values;
        sound = h.sound;
      }

  -- ---- a typed row

  -- what the world does on operands of an instruction's types, or of a foreign function's
  asked_answer : (i : Instruction) (vs : List Value) (rs : List PrimitiveTypeInfo) → All IsValue vs →
      asked_types context.info i (types vs) ≡ Some rs → IsAnswer s.world.info i rs s.globals s.rest (s.world.answer i vs (own_globals s) s.rest)
  asked_answer i vs rs hv e =
      let k : asked_types s.world.info i (types vs) ≡ Some rs = ap (λ m. asked_types m i (types vs)) h.info_is ∙ e in
      subst (λ gs. IsAnswer s.world.info i rs s.globals s.rest (s.world.answer i vs gs s.rest)) (sym (own_is h))
      (h.sound.answers i rs vs s.globals s.rest k hv (own_types_are h) h.global_values)

  -- and on those of an instruction's types alone
  pub sound_answer : (i : Instruction) (vs : List Value) (rs : List PrimitiveTypeInfo) → All IsValue vs →
      other_types context.info i (types vs) ≡ Some rs → IsAnswer s.world.info i rs s.globals s.rest (s.world.answer i vs (own_globals s) s.rest)
  sound_answer i vs rs hv e = asked_answer i vs rs hv (asked_of context.info i (types vs) rs e)

  answered_typed : (i : Instruction) (rs : List PrimitiveTypeInfo) (o : Answer) (others : List Value) → others ≡ [] →
      IsAnswer s.world.info i rs s.globals s.rest o → EndsTyped context rs (answered o others s)
  answered_typed i rs (Gives us gs r) others e a =
      let is : gs ++ others ≡ gs = ap (λ (x : List Value). gs ++ x) e ∙ append-nil gs in (
        a.0,
        a.1,
        record {
          locals_are = h.locals_are;
          globals_are = ap types is ∙ (a.2 ∙ ap (λ (m : Module). m.globals) h.info_is);
          info_is = h.info_is;
          local_values = h.local_values;
          global_values = subst (All IsValue) (sym is) a.3;
          sound = h.sound;
        },
      )
  answered_typed i rs (Fails c gs r) others e a = (a.1 ∙ ap (λ (m : Module). m.globals) h.info_is, a.2)

  -- a trap of the machine's own leaves the module's globals
  pub own_typed : (types (own_globals s) ≡ context.info.globals) × All IsValue (own_globals s)
  own_typed = (ap types (own_is h) ∙ h.globals_are, subst (All IsValue) (sym (own_is h)) h.global_values)

  pub asked_typed : (i : Instruction) (vs : List Value) (rs : List PrimitiveTypeInfo) → All IsValue vs →
      asked_types context.info i (types vs) ≡ Some rs → EndsTyped context rs (effect (other i) vs s)
  asked_typed i vs rs hv e =
      answered_typed i rs (s.world.answer i vs (own_globals s) s.rest) _ (others_none h i vs (own_globals s)) (asked_answer i vs rs hv e)

  pub effect_typed : (row : IntegerRow) (vs : List Value) (rs : List PrimitiveTypeInfo) → All IsValue vs →
      row_types context row (types vs) ≡ Some rs → EndsTyped context rs (effect row vs s)
  effect_typed (constant t n) [] rs hv e = (cc, one (whole t n) (whole_is t n), h)
  effect_typed (constant t n) (v ∷ vs) rs hv e = absurd cc
  effect_typed (operation f) vs rs hv e = go (f.value (map (λ v. v.number) vs))
    where
      go : (o : Option ℕ) → EndsTyped context rs (number_or_trap f.result o (division_trap_cause (map (λ v. v.number) vs)) s)
      go (Some n) = ((some_if _ _ _ e).1, one (whole f.result n) (whole_is f.result n), h)
      go None = own_typed
  effect_typed (get x) [] rs hv e =
      let (t, a, b) = and_then_some (λ u. Some (u ∷ [])) (variable_type context x) rs e in
      let k : t ∷ [] ≡ rs = cc in
      subst (λ ts. EndsTyped context ts (read_of (read x s) s)) k (read_typed x t a)
  effect_typed (get x) (v ∷ vs) rs hv e = absurd cc
  effect_typed (set x) [] rs hv e = absurd cc
  effect_typed (set x) (v ∷ []) rs hv e =
      let (t, a, b) = and_then_some (λ u. if_typed (same_type v.type u) []) (variable_type context x) rs e in
      let (c, d) = some_if (same_type v.type t) [] rs b in
      (d, All-nil IsValue, write_typed x v (All-head IsValue v [] hv) (a ∙ ap Some (sym (same_type_is v.type t c))))
  effect_typed (set x) (v ∷ u ∷ vs) rs hv e = absurd cc
  effect_typed (tee x) [] rs hv e = absurd cc
  effect_typed (tee x) (v ∷ []) rs hv e =
      let (t, a, b) = and_then_some (λ u. if_typed (same_type v.type u) (v.type ∷ [])) (variable_type context x) rs e in
      let (c, d) = some_if (same_type v.type t) (v.type ∷ []) rs b in
      (d, hv, write_typed x v (All-head IsValue v [] hv) (a ∙ ap Some (sym (same_type_is v.type t c))))
  effect_typed (tee x) (v ∷ u ∷ vs) rs hv e = absurd cc
  effect_typed discard [] rs hv e = absurd cc
  effect_typed discard (v ∷ []) rs hv e = (cc, All-nil IsValue, h)
  effect_typed discard (v ∷ u ∷ vs) rs hv e = absurd cc
  effect_typed select [] rs hv e = absurd cc
  effect_typed select (v ∷ []) rs hv e = absurd cc
  effect_typed select (v ∷ u ∷ []) rs hv e = absurd cc
  effect_typed select (v ∷ u ∷ c ∷ []) rs hv e =
      let (a, b) = some_if (is_numeric v.type && same_types (u.type ∷ c.type ∷ []) (v.type ∷ primitive.I32 ∷ [])) (v.type ∷ []) rs e in
      let all = and_parts (is_numeric v.type) (same_types (u.type ∷ c.type ∷ []) (v.type ∷ primitive.I32 ∷ [])) a in
      let p = and_parts (same_type u.type v.type) (same_types (c.type ∷ []) (primitive.I32 ∷ [])) all.1 in
      (either (c.number == 0) (same_type_is u.type v.type p.0) ∙ b, values (c.number == 0), h)
    where
      either : (k : Bool) → u.type ≡ v.type → types ((if k then u else v) ∷ []) ≡ v.type ∷ []
      either true p = ap (λ t. t ∷ []) p
      either false p = refl

      values : (k : Bool) → All IsValue ((if k then u else v) ∷ [])
      values true = one u (All-head IsValue u (c ∷ []) (All-tail IsValue v (u ∷ c ∷ []) hv))
      values false = one v (All-head IsValue v (u ∷ c ∷ []) hv)
  effect_typed select (v ∷ u ∷ c ∷ w ∷ vs) rs hv e = absurd cc
  effect_typed nop [] rs hv e = (cc, All-nil IsValue, h)
  effect_typed nop (v ∷ vs) rs hv e = absurd cc
  effect_typed (other i) vs rs hv e = asked_typed i vs rs hv (asked_of context.info i (types vs) rs e)

  pub act_at : (row : IntegerRow) (vs : List Value) (rs : List PrimitiveTypeInfo) → row_types context row (types vs) ≡ Some rs →
      act row vs s ≡ effect row vs s
  act_at row vs rs e = act_is row vs rs s (ap (λ c. row_types c row (types vs)) (context_is h) ∙ e)

  pub act_typed : (row : IntegerRow) (vs : List Value) (rs : List PrimitiveTypeInfo) → All IsValue vs →
      row_types context row (types vs) ≡ Some rs → EndsTyped context rs (act row vs s)
  act_typed row vs rs hv e = subst (EndsTyped context rs) (sym (act_at row vs rs e)) (effect_typed row vs rs hv e)

-- ---- one after the other

pub above_typed : (context : Context) (ks js : List PrimitiveTypeInfo) (vs : List Value) (o : Outcome) → types vs ≡ ks → All IsValue vs →
    EndsTyped context js o → EndsTyped context (ks ++ js) (above vs o)
above_typed context ks js vs (Ends us s) e a h = (types_append vs us ∙ ap₂ (λ x y. x ++ y) e h.0, All-append IsValue vs us a h.1, h.2)
above_typed context ks js vs (Traps c gs r) e a h = h
above_typed context ks js vs Stuck e a h = h

pub then_typed : (context : Context) (ks js : List PrimitiveTypeInfo) (o : Outcome) (f : List Value → State → Outcome) → EndsTyped context ks o →
    ((vs : List Value) (s : State) → types vs ≡ ks → All IsValue vs → HasTypes context s → EndsTyped context js (f vs s)) →
    EndsTyped context js (then_run o f)
then_typed context ks js (Ends vs s) f h k = k vs s h.0 h.1 h.2
then_typed context ks js (Traps c gs r) f h k = h
then_typed context ks js Stuck f h k = h

pub then_above_typed : (context : Context) (ks js : List PrimitiveTypeInfo) (o : Outcome) (f : State → Outcome) → EndsTyped context ks o →
    ((s : State) → HasTypes context s → EndsTyped context js (f s)) → EndsTyped context (ks ++ js) (then_run o (λ vs s. above vs (f s)))
then_above_typed context ks js o f h k =
    then_typed context ks (ks ++ js) o (λ vs s. above vs (f s)) h (λ vs s e a t. above_typed context ks js vs (f s) e a (k s t))

pub not_stuck : (context : Context) (ts : List PrimitiveTypeInfo) (o : Outcome) → EndsTyped context ts o → o ≢ Stuck
not_stuck context ts (Ends vs s) h e = cc
not_stuck context ts (Traps c gs r) h e = cc
not_stuck context ts Stuck h e = h

-- ---- runs

pub keeps_above : (context : Context) (stack : List Value) (o : Outcome) → All IsValue stack → Keeps context o → Keeps context (above stack o)
keeps_above context stack (Ends vs s) a h = (All-append IsValue stack vs a h.0, h.1)
keeps_above context stack (Traps c gs r) a h = h
keeps_above context stack Stuck a h = h

pub keeps_typed : (context : Context) (ts : List PrimitiveTypeInfo) (o : Outcome) → EndsTyped context ts o → Keeps context o
keeps_typed context ts (Ends vs s) h = (h.1, h.2)
keeps_typed context ts (Traps c gs r) h = h
keeps_typed context ts Stuck h = tt

act_keeps : {context : Context} {s : State} (h : HasTypes context s) (row : IntegerRow) (vs : List Value) → All IsValue vs →
    Keeps context (act row vs s)
act_keeps {context} {s} h row vs hv = go (row_types (state_context s) row (types vs)) refl
  where
    go : (o : Option (List PrimitiveTypeInfo)) → row_types (state_context s) row (types vs) ≡ o →
        Keeps context (only_if (is_some o) (effect row vs s))
    go (Some rs) e =
        keeps_typed context rs (effect row vs s)
        (effect_typed h row vs rs hv (sym (ap (λ c. row_types c row (types vs)) (context_is h)) ∙ e))
    go None e = tt

pub step_keeps : {context : Context} {s : State} (h : HasTypes context s) (row : IntegerRow) (stack : List Value) → All IsValue stack →
    Keeps context (step row stack s)
step_keeps {context} {s} h row stack hs =
    let below = length stack - operand_count s.world.info row in
    keeps_above context (take below stack) (act row (drop below stack) s) (All-take IsValue below stack hs)
    (act_keeps h row (drop below stack) (All-drop IsValue below stack hs))

pub run_keeps : (context : Context) (code : List Instruction) (stack : List Value) (s : State) → HasTypes context s → All IsValue stack →
    Keeps context (run code stack s)
run_keeps context [] stack s h hs = (hs, h)
run_keeps context (i ∷ code) stack s h hs = go (step (integer_row i) stack s) (step_keeps h (integer_row i) stack hs) (run_keeps context code)
  where
    go : (o : Outcome) → Keeps context o → ((stack : List Value) (m : State) → HasTypes context m → All IsValue stack → Keeps context (run code stack m)) →
        Keeps context (then_run o (run code))
    go (Ends vs m) h k = k vs m h.1 h.0
    go (Traps c gs r) h k = h
    go Stuck h k = tt
