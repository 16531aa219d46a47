-- The worlds of calls are sound, and a rewritten function answers as the old one, whatever stands behind the module's globals.
use Rattle.std.proofs.Common.{◌≡◌, ℕ, zero, suc, Bool, true, false, List, [], ◌∷◌, ◌++◌, Option, Some, None, refl, sym, ap, ap₂, ◌∙◌, subst, arith}
use Rattle.std.specs.Prelude.{◌≢◌, ◌||◌, ◌==◌, if◌then◌else◌, option_map}
use Rattle.std.specs.List.{All}
use Rattle.std.proofs.lemmas.List.Elements.{All-nil, All-cons, All-append}
use Rattle.wasm_code.specs.declared.table.Opcode.{Opcode}
use Rattle.wasm_code.specs.declared.table.Opcode.TheVariants.{Byte, Fc, Fd}
use Rattle.wasm_code.specs.declared.immediate.Imm.{Imm}
use Rattle.wasm_code.specs.declared.immediate.Imm.TheVariants as imm
use Rattle.wasm_code.specs.Instruction.{Instruction}
use Rattle.wasm_code.specs.Table.{row_at, opcode_in}
use Rattle.wasm_types.specs.declared.types.PrimitiveTypeInfo.{PrimitiveTypeInfo}
use Rattle.wasm_types.specs.declared.types.PrimitiveTypeInfo.TheVariants as primitive
use Rattle.wasm_execution.specs.ExactRow.{ExactRow, exact_by, exact_row}
use Rattle.wasm_execution.specs.OtherRow.{changes, may_trap, opcode_changes, opcode_fails}
use Rattle.wasm_execution.specs.Values.{same_types, asked_types, Value, IsValue, IsOfType, types, Context, Cause, unfinished, stuck, Gives}
use Rattle.wasm_execution.specs.Values.{Fails, World, State, own_globals, IsAnswer, IsSound, HasTypes, Outcome, Ends, Traps, Stuck}
use Rattle.wasm_execution.specs.Agreement.{with_globals}
use Rattle.wasm_execution.specs.RowLemmas.{same_types_is}
use Rattle.std.proofs.lemmas.Bool.{and_parts, eqb-true}
use Rattle.wasm_execution.specs.OutcomeLemmas.{types_append}
use Rattle.wasm_execution.specs.StateLemmas.{own_is, own_front}
use Rattle.wasm_execution.specs.TypeLemmas.{own_typed}
use Rattle.wasm_equivalence.specs.control.Function.{structural, Others, OthersKeepTypes, world_by, reached_by, Reached, At, Done, runs}
use Rattle.wasm_equivalence.specs.control.Function.{reached_with, FollowsEnd, IsTyped}
use Rattle.wasm_equivalence.specs.modules.Program.{opcode_callee, callee, Body, Program, Controls, Callee, own_callee, default_local_values}
use Rattle.wasm_equivalence.specs.modules.Program.{are_of, answer_of, results_or_none, Answering, world_with, Host, IsSoundHost, call}
use Rattle.wasm_equivalence.specs.modules.Program.{can_call, answer_at_once, answer_in, answers, world, function_context, IsSoundBody}
use Rattle.wasm_equivalence.specs.modules.Program.{AreSound, FunctionIsRewritten}
use Rattle.wasm_equivalence.specs.control.Numbers.{are_values}
use Rattle.wasm_equivalence.proofs.control.NumberLemmas.{values_are, both_true, values_fit, same_types_self}
use Rattle.wasm_equivalence.proofs.control.FunctionLemmas.{runs_typed}
use Rattle.wasm_equivalence.proofs.control.AloneLemmas.{runs_by}

-- ---- calls may change anything, and trap

opcode_callee_changes : (o : Option Opcode) (m : Imm) (f : ℕ) → opcode_callee o m ≡ Some f → opcode_changes o ≡ true
opcode_callee_changes (Some (Byte byte)) (imm.Index n) f e = go (byte == 0x10) refl e
  where
    go : (b : Bool) → (byte == 0x10) ≡ b → (if b then Some n else None) ≡ Some f → opcode_changes (Some (Byte byte)) ≡ true
    go true k x = ap (λ m. opcode_changes (Some (Byte m))) (eqb-true byte 0x10 k)
    go false k x = absurd cc
opcode_callee_changes (Some (Byte byte)) m f e = absurd cc
opcode_callee_changes (Some (Fc n)) m f e = absurd cc
opcode_callee_changes (Some (Fd n)) m f e = absurd cc
opcode_callee_changes None m f e = absurd cc

callee_changes : (i : Instruction) (f : ℕ) → callee i ≡ Some f → changes i ≡ true
unfolding callee changes
callee_changes i f e = opcode_callee_changes (opcode_in (row_at i.row)) i.imm f e

callee_may_trap : (i : Instruction) (f : ℕ) → callee i ≡ Some f → may_trap i ≡ true
unfolding may_trap
callee_may_trap i f e = ap (λ b. b || opcode_fails (opcode_in (row_at i.row))) (callee_changes i f e)

-- ---- exact rows are no calls

no_callee_by : (o : Option Opcode) (m : Imm) (row : ExactRow) → exact_by o m ≡ Some row → opcode_callee o m ≡ None
no_callee_by None m row e = refl
no_callee_by (Some (Fc n)) m row e = refl
no_callee_by (Some (Fd n)) m row e = refl
no_callee_by (Some (Byte byte)) (imm.Index f) row e = absurd cc
no_callee_by (Some (Byte byte)) m row e = refl

no_callee : (i : Instruction) (row : ExactRow) → exact_row i ≡ Some row → callee i ≡ None
unfolding callee exact_row
no_callee i row e = no_callee_by (opcode_in (row_at i.row)) i.imm row e

-- ---- values

pub zeros_types : (ts : List PrimitiveTypeInfo) → types (default_local_values ts) ≡ ts
zeros_types [] = refl
zeros_types (t ∷ ts) = ap (λ us. t ∷ us) (zeros_types ts)

zero_is : (t : PrimitiveTypeInfo) → IsOfType t 0
zero_is primitive.I32 = omega arith
zero_is primitive.I64 = omega arith
zero_is primitive.F32 = omega arith
zero_is primitive.F64 = omega arith
zero_is primitive.V128 = omega arith
zero_is primitive.FuncRef = tt
zero_is primitive.ExternRef = tt
zero_is primitive.Empty = tt

zeros_are : (ts : List PrimitiveTypeInfo) → All IsValue (default_local_values ts)
zeros_are [] = All-nil IsValue
zeros_are (t ∷ ts) = All-cons IsValue (record { type = t; number = 0 }) (default_local_values ts) (zero_is t) (zeros_are ts)

pub of_are : (ts : List PrimitiveTypeInfo) (vs : List Value) → are_of ts vs ≡ true → (types vs ≡ ts) × All IsValue vs
of_are ts vs e =
    let p = and_parts (same_types (types vs) ts) (are_values vs) e in
    (same_types_is (types vs) ts p.0, values_are vs p.1)

-- ---- how a call ends

pub answer_by : (o : Others) (results : List PrimitiveTypeInfo) (p : Reached) → answer_of results (reached_by o p) ≡ answer_of results p
answer_by o results (At k labels stack s) = refl
answer_by o results (Done (Ends us s)) = refl
answer_by o results (Done (Traps cause gs r)) = refl
answer_by o results (Done Stuck) = refl

module _ (context : Context) where
  own_alike : {s : State} (h : HasTypes context s) (more : List Value) → own_globals s ≡ own_globals (with_globals more s)
  own_alike h more = own_is h ∙ sym (own_front h more)

  answer_follows : (results : List PrimitiveTypeInfo) (more : List Value) (p : Reached) → IsTyped context p →
      answer_of results p ≡ answer_of results (reached_with more p)
  answer_follows results more (At k labels stack s) t = ap (λ (gs : List Value). Fails unfinished gs s.rest) (own_alike t.1 more)
  answer_follows results more (Done (Ends us s)) t =
      ap (λ (gs : List Value). if same_types (types us) results then Gives us gs s.rest else Fails stuck gs s.rest) (own_alike t.1 more)
  answer_follows results more (Done (Traps cause gs r)) t = refl
  answer_follows results more (Done Stuck) t = refl

  answer_ends : (results : List PrimitiveTypeInfo) (more : List Value) (p q : Reached) → IsTyped context p → FollowsEnd more p q →
      answer_of results p ≡ answer_of results q
  answer_ends results more (At k labels stack s) (At j others values u) t (after, e, is) =
      answer_follows results after (At k labels stack s) t ∙ ap (λ (x : State). answer_of results (At j others values x)) (sym is)
  answer_ends results more (Done o) (Done q) t (after, e, is) =
      answer_follows results after (Done o) t ∙ ap (λ (x : Outcome). answer_of results (Done x)) (sym is)
  answer_ends results more (At k labels stack s) (Done q) t h = absurd h
  answer_ends results more (Done o) (At j others values u) t h = absurd h

  module _ (i : Instruction) (f : ℕ) (e : callee i ≡ Some f) (results : List PrimitiveTypeInfo) (globals : List Value) (rest : ℕ) where
    fails : (cause : Cause) (gs : List Value) (r : ℕ) → types gs ≡ context.info.globals → All IsValue gs →
        IsAnswer context.info i results globals rest (Fails cause gs r)
    fails cause gs r g v = (callee_may_trap i f e, g, v, λ c. absurd (changed c))
      where
        changed : changes i ≡ false → ⊥
        changed c = let x : true ≡ false = sym (callee_changes i f e) ∙ c in cc

    fails_in : (cause : Cause) (s : State) → HasTypes context s → IsAnswer context.info i results globals rest (Fails cause (own_globals s) s.rest)
    fails_in cause s h = let it = own_typed h in fails cause (own_globals s) s.rest it.0 it.1

    answer_is : (p : Reached) → IsTyped context p → p ≢ Done Stuck → IsAnswer context.info i results globals rest (answer_of results p)
    answer_is (At k labels stack s) t n = fails_in unfinished s t.1
    answer_is (Done (Ends us s)) t n = go (same_types (types us) results) refl
      where
        go : (b : Bool) → same_types (types us) results ≡ b →
            IsAnswer context.info i results globals rest (if b then Gives us (own_globals s) s.rest else Fails stuck (own_globals s) s.rest)
        go true k = (
          same_types_is (types us) results k,
          t.0,
          (own_typed t.1).0,
          (own_typed t.1).1,
          (fails_in stuck s t.1).3,
        )
        go false k = fails_in stuck s t.1
    answer_is (Done (Traps cause gs r)) t n = fails cause gs r t.0 t.1
    answer_is (Done Stuck) t n = absurd (n refl)

-- ---- calls

module _ (host : Host) (controls : Controls) (fuel : ℕ) where
  pub start_typed : (b : Body) (w : World) (vs gs : List Value) (r : ℕ) → w.info ≡ host.info → IsSound w → types vs ≡ b.params → All IsValue vs →
      types gs ≡ host.info.globals → All IsValue gs →
      HasTypes (function_context host.info b) (record { locals = vs ++ default_local_values b.locals; globals = gs; rest = r; world = w })
  start_typed b w vs gs r i s e a g v = record {
    locals_are = types_append vs (default_local_values b.locals) ∙ ap₂ (λ (x y : List PrimitiveTypeInfo). x ++ y) e (zeros_types b.locals);
    globals_are = g;
    info_is = i;
    local_values = All-append IsValue vs (default_local_values b.locals) a (zeros_are b.locals);
    global_values = v;
    sound = s;
  }

  module _ (f : ℕ) (b : Body) (h : IsSoundBody host.info (controls f) b) (w : World) (i : w.info ≡ host.info) (sound : IsSound w) (vs gs : List Value) (r : ℕ)
      (e : types vs ≡ b.params) (a : All IsValue vs) (g : types gs ≡ host.info.globals) (v : All IsValue gs) where
    abbrev start : State
    start = record { locals = vs ++ default_local_values b.locals; globals = gs; rest = r; world = w }

    abbrev old_call : Reached
    old_call = call host controls fuel (record { index = f; body = b }) w vs gs r

    typed : HasTypes (function_context host.info b) start
    typed = start_typed b w vs gs r i sound e a g v

    pub call_typed : IsTyped (function_context host.info b) old_call
    call_typed =
        runs_typed (function_context host.info b) (controls f (structural b.operators)) h.sound b.operators fuel (At 0 [] [] start) (All-nil IsValue, typed)

    call_free : old_call ≢ Done Stuck
    call_free = h.free fuel start typed

    -- nothing asks what would become of globals behind the module's
    pub call_by : (o : Others) → OthersKeepTypes o →
        call host controls fuel (record { index = f; body = b }) (world_by o w) vs gs r ≡ reached_by o old_call
    call_by o kept =
        runs_by o kept (function_context host.info b) (controls f (structural b.operators)) h.sound b.operators fuel (At 0 [] [] start) (All-nil IsValue, typed)

  module _ (requests : List PrimitiveTypeInfo) (f : ℕ) (b c : Body) (h : FunctionIsRewritten host.info requests (controls f) b c) (w : World)
      (i : w.info ≡ host.info) (sound : IsSound w) (vs gs : List Value) (r : ℕ) (e : types vs ≡ b.params) (a : All IsValue vs)
      (g : types gs ≡ host.info.globals) (v : All IsValue gs) where
    abbrev before : Reached
    before = call host controls fuel (record { index = f; body = b }) w vs gs r

    call_follows : (requested : List Value) → types requested ≡ requests →
        FollowsEnd requested before (call host controls fuel (record { index = f; body = c }) w vs (gs ++ requested) r)
    call_follows requested q =
        let it = h.alike fuel requested (record { locals = vs ++ default_local_values b.locals; globals = gs; rest = r; world = w })
        (start_typed b w vs gs r i sound e a g v) q (call_free f b h.runs w i sound vs gs r e a g v) in
        subst (λ (x : List PrimitiveTypeInfo). FollowsEnd requested before (runs (controls f (structural c.operators)) c.operators fuel
        (At 0 [] [] (record { locals = vs ++ default_local_values x; globals = gs ++ requested; rest = r; world = w })))) h.locals_are it

    pub call_answers : (requested : List Value) → types requested ≡ requests → (results : List PrimitiveTypeInfo) →
        answer_of results before ≡ answer_of results (call host controls fuel (record { index = f; body = c }) w vs (gs ++ requested) r)
    call_answers requested q results =
        answer_ends (function_context host.info b) results requested before
        (call host controls fuel (record { index = f; body = c }) w vs (gs ++ requested) r) (call_typed f b h.runs w i sound vs gs r e a g v)
        (call_follows requested q)

  -- ---- each depth

  module _ (p : Program) (host_sound : IsSoundHost host) (all_sound : AreSound host.info controls p) where
    abbrev at_index : ℕ → Option Body → Option Callee
    at_index f o = option_map (λ b. record { index = f; body = b }) o

    module _ (i : Instruction) (results : List PrimitiveTypeInfo) (vs gs : List Value) (r : ℕ) (e : asked_types host.info i (types vs) ≡ Some results)
        (a : All IsValue vs) (g : types gs ≡ host.info.globals) (v : All IsValue gs) where
      module _ (calls : Answering) (sound : IsSound (world_with host.info calls)) where
        by_host : IsAnswer host.info i results gs r (host.over calls i vs gs r)
        by_host = (host_sound.over_sound calls sound).answers i results vs gs r e a g v

        by_body : (f : ℕ) (o : Option Body) → callee i ≡ Some f → p f ≡ o →
            IsAnswer host.info i results gs r (answer_in host controls fuel calls (at_index f o) i vs gs r)
        by_body f None c k = by_host
        by_body f (Some b) c k = go (can_call host controls fuel (record { index = f; body = b }) vs gs) refl
          where
            go : (x : Bool) → can_call host controls fuel (record { index = f; body = b }) vs gs ≡ x →
                IsAnswer host.info i results gs r (if x then answer_of (results_or_none (asked_types host.info i (types vs)))
                (call host controls fuel (record { index = f; body = b }) (world_with host.info calls) vs gs r) else Fails stuck gs r)
            go true y =
                let both = and_parts (are_of b.params vs) (are_of host.info.globals gs) y in
                let x = of_are b.params vs both.0 in
                let h = all_sound f b k in
                let w = world_with host.info calls in
                subst (λ (z : Option (List PrimitiveTypeInfo)). IsAnswer host.info i results gs r (answer_of (results_or_none z)
                (call host controls fuel (record { index = f; body = b }) w vs gs r))) (sym e)
                (answer_is (function_context host.info b) i f c results gs r (call host controls fuel (record { index = f; body = b }) w vs gs r)
                (call_typed f b h w refl sound vs gs r x.0 x.1 g v) (call_free f b h w refl sound vs gs r x.0 x.1 g v))
            go false y = fails (function_context host.info b) i f c results gs r stuck gs r g v

        deeper_answers : (o : Option ℕ) → callee i ≡ o → IsAnswer host.info i results gs r (answer_in host controls fuel calls (own_callee p o) i vs gs r)
        deeper_answers None c = by_host
        deeper_answers (Some f) c = by_body f (p f) c refl

      ground_answers : IsAnswer host.info i results gs r (host.base i vs gs r) → (o : Option ℕ) → callee i ≡ o →
          IsAnswer host.info i results gs r (answer_at_once host controls fuel (own_callee p o) (host.base i vs gs r) gs r)
      ground_answers h None c = h
      ground_answers h (Some f) c = go (p f)
        where
          go : (o : Option Body) → IsAnswer host.info i results gs r (answer_at_once host controls fuel (at_index f o) (host.base i vs gs r) gs r)
          go None = h
          go (Some b) = fails (function_context host.info b) i f c results gs r unfinished gs r g v

    pub world_sound : (n : ℕ) → IsSound (world host controls fuel p n)
    world_sound zero = record {
      answers = λ i results vs gs r e a g v.
          ground_answers i results vs gs r e a g v (host_sound.base_sound.answers i results vs gs r e a g v) (callee i) refl;
      kept = λ i vs gs r more. refl;
      exact = λ h.
          let base = host_sound.base_sound.exact h in
          record {
            memories = base.memories;
            follows = λ i row results vs gs r e t a g v.
                ap (λ (o : Option ℕ). answer_at_once host controls fuel (own_callee p o) (host.base i vs gs r) gs r) (no_callee i row e) ∙
                base.follows i row results vs gs r e t a g v;
          };
    }
    world_sound (suc n) = record {
      answers = λ i results vs gs r e a g v.
          deeper_answers i results vs gs r e a g v (answers host controls fuel p n) (world_sound n) (callee i) refl;
      kept = λ i vs gs r more. refl;
      exact = λ h.
          let over = (host_sound.over_sound (answers host controls fuel p n) (world_sound n)).exact h in
          record {
            memories = over.memories;
            follows = λ i row results vs gs r e t a g v.
                ap (λ (o : Option ℕ). answer_in host controls fuel (answers host controls fuel p n) (own_callee p o) i vs gs r) (no_callee i row e) ∙
                over.follows i row results vs gs r e t a g v;
          };
    }

-- ---- typed values

pub of_fit : (ts : List PrimitiveTypeInfo) (vs : List Value) → types vs ≡ ts → All IsValue vs → are_of ts vs ≡ true
of_fit ts vs e a =
    both_true (same_types (types vs) ts) (are_values vs) (ap (λ (x : List PrimitiveTypeInfo). same_types x ts) e ∙ same_types_self ts) (values_fit vs a)
