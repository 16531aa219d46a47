-- Code with types: it runs the same above other values, and leaves values of its types.
use Rattle.std.proofs.Common.{◌≡◌, ℕ, ◌-◌, Bool, true, false, List, [], ◌∷◌, ◌++◌, length, take, drop, Some, None, refl, sym, ap, ◌∙◌, subst, append_assoc}
use Rattle.std.specs.Prelude.{nat_le, if◌then◌else◌, option_map}
use Rattle.std.specs.List.{All}
use Rattle.std.proofs.lemmas.List.{append-nil, take-append-drop, take_at, drop_at}
use Rattle.std.proofs.lemmas.List.Elements.{All-nil, All-take, All-drop}
use Rattle.wasm_code.specs.Instruction.{Instruction}
use Rattle.wasm_types.specs.Module.{Module}
use Rattle.wasm_types.specs.declared.types.PrimitiveTypeInfo.{PrimitiveTypeInfo}
use Rattle.wasm_execution.specs.Values.{Value, IsValue, types, Context, State, HasTypes, Outcome, Ends, Traps, Stuck, then_run, above}
use Rattle.wasm_execution.specs.IntegerRow.{operand_count, row_types, integer_row}
use Rattle.wasm_execution.specs.Machine.{act, step, run}
use Rattle.wasm_execution.specs.Agreement.{EndsTyped}
use Rattle.wasm_execution.specs.OutcomeLemmas.{above_above, length_types}
use Rattle.wasm_execution.specs.RowLemmas.{and_then_some, map_some, row_types_count, step_at}
use Rattle.wasm_execution.specs.TypeLemmas.{act_typed, above_typed, then_typed}
use Rattle.rewrite_rules.specs.Code.{types_behind, types_after, Leaves}

pub both_all : {X : Type 0} (P : X → Type 0) (xs ys : List X) → All P (xs ++ ys) → All P xs × All P ys
both_all P xs ys h = (
  subst (All P) (take_at xs ys (length xs) refl) (All-take P (length xs) (xs ++ ys) h),
  subst (All P) (drop_at xs ys (length xs) refl) (All-drop P (length xs) (xs ++ ys) h),
)

-- values whose types are two lists, one behind the other
record Cut (vs : List Value) (ts us : List PrimitiveTypeInfo) : Type 0 where
  front : List Value
  back : List Value
  parts : vs ≡ front ++ back
  front_types : types front ≡ ts
  back_types : types back ≡ us

cut_values : (vs : List Value) (ts us : List PrimitiveTypeInfo) → types vs ≡ ts ++ us → Cut vs ts us
cut_values vs [] us e = record { front = []; back = vs; parts = refl; front_types = refl; back_types = e }
cut_values [] (t ∷ ts) us e = absurd cc
cut_values (v ∷ vs) (t ∷ ts) us e =
    let c = cut_values vs ts us (cc) in
    let same : v.type ≡ t = cc in
    record {
      front = v ∷ c.front;
      back = c.back;
      parts = ap (λ xs. v ∷ xs) c.parts;
      front_types = ap (λ xs. v.type ∷ xs) c.front_types ∙ ap (λ (x : PrimitiveTypeInfo). x ∷ ts) same;
      back_types = c.back_types;
    }

pub above_none : (o : Outcome) → above [] o ≡ o
above_none (Ends vs s) = refl
above_none (Traps c gs r) = refl
above_none Stuck = refl

module _ (context : Context) where
  -- an instruction's operands stand on top of these types, and what it gives in their place
  pub record Behind (i : Instruction) (ts us : List PrimitiveTypeInfo) : Type 0 where
    pub below : List PrimitiveTypeInfo
    pub operands : List PrimitiveTypeInfo
    pub results : List PrimitiveTypeInfo
    pub parts : ts ≡ below ++ operands
    pub typed : row_types context (integer_row i) operands ≡ Some results
    pub gives : us ≡ below ++ results

  pub behind : (i : Instruction) (ts us : List PrimitiveTypeInfo) → types_behind context i ts ≡ Some us → Behind i ts us
  behind i ts us e = go (nat_le (operand_count context.info (integer_row i)) (length ts)) e
    where
      below : ℕ
      below = length ts - operand_count context.info (integer_row i)

      go : (b : Bool) → (if b then option_map (λ us. take below ts ++ us) (row_types context (integer_row i) (drop below ts)) else None) ≡ Some us →
          Behind i ts us
      go true e =
          let (rs, a, b) = map_some (λ us. take below ts ++ us) (row_types context (integer_row i) (drop below ts)) us e in
          record {
            below = take below ts;
            operands = drop below ts;
            results = rs;
            parts = sym (take-append-drop below ts);
            typed = a;
            gives = sym b;
          }
      go false e = absurd cc

  module _ (i : Instruction) (ts us : List PrimitiveTypeInfo) (b : Behind i ts us) (s : State) (h : HasTypes context s) where
    -- on such operands above others
    step_is : (front back : List Value) → types back ≡ b.operands → step (integer_row i) (front ++ back) s ≡ above front (act (integer_row i) back s)
    step_is front back e =
        step_at (integer_row i) front back s
        (ap (λ (m : Module). operand_count m (integer_row i)) h.info_is
        ∙ (row_types_count context (integer_row i) b.operands b.results b.typed ∙ (ap length (sym e) ∙ length_types back)))

    -- the operands on a stack of the types
    pub record Found (stack : List Value) : Type 0 where
      pub front : List Value
      pub back : List Value
      pub parts : stack ≡ front ++ back
      pub front_types : types front ≡ b.below
      pub front_values : All IsValue front
      pub back_values : All IsValue back
      pub typed : row_types context (integer_row i) (types back) ≡ Some b.results
      pub does : (below : List Value) → step (integer_row i) (below ++ stack) s ≡ above below (above front (act (integer_row i) back s))

    pub found : (stack : List Value) → All IsValue stack → types stack ≡ ts → Found stack
    found stack v t =
        let c = cut_values stack b.below b.operands (t ∙ b.parts) in
        let both = both_all IsValue c.front c.back (subst (All IsValue) c.parts v) in
        record {
          front = c.front;
          back = c.back;
          parts = c.parts;
          front_types = c.front_types;
          front_values = both.0;
          back_values = both.1;
          typed = ap (row_types context (integer_row i)) c.back_types ∙ b.typed;
          does = λ below.
              ap (λ l. step (integer_row i) l s) (ap (λ l. below ++ l) c.parts ∙ sym (append_assoc below c.front c.back))
              ∙ (step_is (below ++ c.front) c.back c.back_types ∙ above_above below c.front (act (integer_row i) c.back s));
        }

    pub step_typed : (stack : List Value) → All IsValue stack → types stack ≡ ts → EndsTyped context us (step (integer_row i) stack s)
    step_typed stack v t =
        let f = found stack v t in
        let o = act (integer_row i) f.back s in
        subst (EndsTyped context us) (sym (f.does [] ∙ above_none (above f.front o)))
        (subst (λ l. EndsTyped context l (above f.front o)) (sym b.gives)
        (above_typed context b.below b.results f.front o f.front_types f.front_values
        (act_typed h (integer_row i) f.back b.results f.back_values f.typed)))

    pub step_above : (below stack : List Value) → All IsValue stack → types stack ≡ ts →
        step (integer_row i) (below ++ stack) s ≡ above below (step (integer_row i) stack s)
    step_above below stack v t =
        let f = found stack v t in
        f.does below ∙ ap (above below) (sym (f.does [] ∙ above_none (above f.front (act (integer_row i) f.back s))))

  -- ---- code

  pub run_typed : (code : List Instruction) (ts us : List PrimitiveTypeInfo) → types_after context code ts ≡ Some us → (stack : List Value) (s : State) →
      HasTypes context s → All IsValue stack → types stack ≡ ts → EndsTyped context us (run code stack s)
  run_typed [] ts us e stack s h v t =
      let same : ts ≡ us = cc in
      (t ∙ same, v, h)
  run_typed (i ∷ code) ts us e stack s h v t =
      let (ms, a, b) = and_then_some (types_after context code) (types_behind context i ts) us e in
      then_typed context ms us (step (integer_row i) stack s) (run code) (step_typed i ts ms (behind i ts ms a) s h stack v t)
      (λ vs m ty hv hm. run_typed code ms us b vs m hm hv ty)

  pub run_above : (code : List Instruction) (ts us : List PrimitiveTypeInfo) → types_after context code ts ≡ Some us → (below stack : List Value) (s : State) →
      HasTypes context s → All IsValue stack → types stack ≡ ts → run code (below ++ stack) s ≡ above below (run code stack s)
  run_above [] ts us e below stack s h v t = refl
  run_above (i ∷ code) ts us e below stack s h v t =
      let (ms, a, b) = and_then_some (types_after context code) (types_behind context i ts) us e in
      let k = behind i ts ms a in
      ap (λ o. then_run o (run code)) (step_above i ts ms k s h below stack v t)
      ∙ go ms (step (integer_row i) stack s) (step_typed i ts ms k s h stack v t) (λ vs m hm hv ty. run_above code ms us b below vs m hm hv ty)
    where
      go : (ms : List PrimitiveTypeInfo) (o : Outcome) → EndsTyped context ms o →
          ((vs : List Value) (m : State) → HasTypes context m → All IsValue vs → types vs ≡ ms → run code (below ++ vs) m ≡ above below (run code vs m)) →
          then_run (above below o) (run code) ≡ above below (then_run o (run code))
      go ms (Ends vs m) k next = next vs m k.2 k.1 k.0
      go ms (Traps c gs r) k next = refl
      go ms Stuck k next = refl

  -- ---- code that needs nothing and leaves one value

  pub leaves_typed : (code : List Instruction) (t : PrimitiveTypeInfo) (s : State) → Leaves context code t → HasTypes context s →
      EndsTyped context (t ∷ []) (run code [] s)
  leaves_typed code t s e h = run_typed code [] (t ∷ []) e [] s h (All-nil IsValue) refl

  pub leaves_above : (code : List Instruction) (t : PrimitiveTypeInfo) (stack : List Value) (s : State) → Leaves context code t → HasTypes context s →
      run code stack s ≡ above stack (run code [] s)
  leaves_above code t stack s e h =
      ap (λ l. run code l s) (sym (append-nil stack)) ∙ run_above code [] (t ∷ []) e stack [] s h (All-nil IsValue) refl
