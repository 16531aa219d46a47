-- What typed code does above every stack, and what it leaves as it is.
use Rattle.std.proofs.Common.{◌≡◌, ℕ, zero, suc, ◌-◌, Bool, true, false, List, [], ◌∷◌, ◌++◌, length, take, drop, Option, Some, None, refl}
use Rattle.std.proofs.Common.{sym, ap, ap₂, ◌∙◌, subst, append-nil}
use Rattle.std.specs.Prelude.{◌&&◌, not, map, set as slice_set, slice_get, is_some}
use Rattle.std.specs.List.{All}
use Rattle.std.proofs.lemmas.Bool.{and_parts, or_parts, eqb-false}
use Rattle.std.proofs.lemmas.List.Elements.{All-nil, All-drop}
use Rattle.wasm_code.specs.Instruction.{Instruction}
use Rattle.wasm_types.specs.Module.{Module}
use Rattle.wasm_types.specs.declared.types.PrimitiveTypeInfo.{PrimitiveTypeInfo}
use Rattle.wasm_execution.specs.OtherRow.{changes}
use Rattle.wasm_execution.specs.Values.{Value, IsValue, types, Context, Answer, Gives, Fails, IsAnswer, State, Variable, local, global}
use Rattle.wasm_execution.specs.Values.{read, write, own_globals, further_globals, HasTypes, Outcome, Ends, Traps, Stuck, then_run, above}
use Rattle.wasm_execution.specs.IntegerRow.{IntegerRow, constant, operation, get, set, tee, discard, select, nop, other, operand_count, row_types, integer_row}
use Rattle.wasm_execution.specs.Machine.{division_trap_cause, number_or_trap, read_of, answered, effect, only_if, state_context, act, step, run}
use Rattle.wasm_execution.specs.Agreement.{EndsTyped}
use Rattle.wasm_execution.specs.Laws.{Keeps}
use Rattle.wasm_execution.specs.StateLemmas.{context_is, others_none}
use Rattle.wasm_execution.specs.TypeLemmas.{sound_answer, step_keeps, run_keeps}
use Rattle.wasm_equivalence.specs.validation.Sound.{EndsIn, ValidCodeRuns}
use Rattle.wasm_equivalence.specs.validation.Algorithm.{known}
use Rattle.wasm_equivalence.specs.validation.StaysValid.{with_types, Pushes}
use Rattle.wrapped_code.specs.Ways.{IsPure, IsAlone, LeavesValue, same_variable, row_writes_variable, code_writes, row_changes}
use Rattle.wrapped_code.specs.Ways.{code_changes, row_is_left, is_left, CodeIsAlone}
use Rattle.wrapped_code.proofs.OverLemmas.{empty_frame, own_ends, own_over}

-- ---- outcomes that end

ends_state : (vs us : List Value) (s m : State) → ◌≡◌ {A = Outcome} (Ends vs s) (Ends us m) → s ≡ m
ends_state vs us s m e = cc

ends_values : (vs us : List Value) (s m : State) → ◌≡◌ {A = Outcome} (Ends vs s) (Ends us m) → vs ≡ us
ends_values vs us s m e = cc

then_ends : (o : Outcome) (f : List Value → State → Outcome) (vs : List Value) (after : State) → then_run o f ≡ Ends vs after →
    (us : List Value) × (m : State) × (o ≡ Ends us m) × (f us m ≡ Ends vs after)
then_ends (Ends us m) f vs after e = (us, m, refl, e)
then_ends (Traps cause gs r) f vs after e = absurd cc
then_ends Stuck f vs after e = absurd cc

above_ends : (below : List Value) (o : Outcome) (vs : List Value) (after : State) → above below o ≡ Ends vs after →
    (us : List Value) × (o ≡ Ends us after)
above_ends below (Ends us m) vs after e = (us, ap (λ (x : State). Ends us x) (ends_state (below ++ us) vs m after e))
above_ends below (Traps cause gs r) vs after e = absurd cc
above_ends below Stuck vs after e = absurd cc

only_ends : (o : Option (List PrimitiveTypeInfo)) (p : Outcome) (vs : List Value) (after : State) → only_if (is_some o) p ≡ Ends vs after →
    (rs : List PrimitiveTypeInfo) × (o ≡ Some rs) × (p ≡ Ends vs after)
only_ends (Some rs) p vs after e = (rs, refl, e)
only_ends None p vs after e = absurd cc

-- ---- lists

get_set_other : (xs : List Value) (i k : ℕ) (v : Value) → (k ≡ i → ⊥) → slice_get (slice_set xs i v) k ≡ slice_get xs k
get_set_other [] i k v d = refl
get_set_other (x ∷ xs) zero zero v d = absurd (d refl)
get_set_other (x ∷ xs) zero (suc k) v d = refl
get_set_other (x ∷ xs) (suc i) zero v d = refl
get_set_other (x ∷ xs) (suc i) (suc k) v d = get_set_other xs i k v (λ e. d (ap suc e))

read_write : (x y : Variable) (v : Value) (s : State) → same_variable x y ≡ false → read x (write y v s) ≡ read x s
read_write (local i) (local j) v s e = get_set_other s.locals j i v (eqb-false i j e)
read_write (local i) (global j) v s e = refl
read_write (global i) (local j) v s e = refl
read_write (global i) (global j) v s e = get_set_other s.globals j i v (eqb-false i j e)

-- ---- a row

module _ (context : Context) where
  -- what the world does, where that is no change
  answer_same : (i : Instruction) (rs : List PrimitiveTypeInfo) (a : Answer) (others us : List Value) (s after : State) → HasTypes context s →
      others ≡ [] → IsAnswer s.world.info i rs s.globals s.rest a → changes i ≡ false → answered a others s ≡ Ends us after → after ≡ s
  answer_same i rs (Gives vs gs r) others us s after h none is free e =
      let kept = is.4 free in
      sym (ends_state vs us (record s { globals = gs ++ others; rest = r }) after e) ∙
      (ap (λ (x : List Value). record s { globals = gs ++ x; rest = r }) none ∙
      ap₂ (λ (x : List Value) (k : ℕ). record s { globals = x; rest = k }) (append-nil gs ∙ kept.0) kept.1)
  answer_same i rs (Fails cause gs r) others us s after h none is free e = absurd cc

  -- a row that changes nothing
  row_same : (row : IntegerRow) (ops us : List Value) (rs : List PrimitiveTypeInfo) (s after : State) → HasTypes context s → All IsValue ops →
      row_types context row (types ops) ≡ Some rs → row_changes row ≡ false → effect row ops s ≡ Ends us after → after ≡ s
  row_same (constant t n) ops us rs s after h a typed free e = sym (ends_state _ us s after e)
  row_same (operation f) ops us rs s after h a typed free e = go (f.value (map (λ v. v.number) ops)) e
    where
      go : (o : Option ℕ) → number_or_trap f.result o (division_trap_cause (map (λ v. v.number) ops)) s ≡ Ends us after → after ≡ s
      go (Some n) e = sym (ends_state _ us s after e)
      go None e = absurd cc
  row_same (get x) ops us rs s after h a typed free e = go (read x s) e
    where
      go : (o : Option Value) → read_of o s ≡ Ends us after → after ≡ s
      go (Some v) e = sym (ends_state (v ∷ []) us s after e)
      go None e = absurd cc
  row_same (set x) ops us rs s after h a typed free e = absurd cc
  row_same (tee x) ops us rs s after h a typed free e = absurd cc
  row_same discard ops us rs s after h a typed free e = sym (ends_state [] us s after e)
  row_same select [] us rs s after h a typed free e = absurd cc
  row_same select (v ∷ []) us rs s after h a typed free e = absurd cc
  row_same select (v ∷ u ∷ []) us rs s after h a typed free e = absurd cc
  row_same select (v ∷ u ∷ c ∷ vs) us rs s after h a typed free e = sym (ends_state _ us s after e)
  row_same nop ops us rs s after h a typed free e = sym (ends_state [] us s after e)
  row_same (other i) ops us rs s after h a typed free e =
      answer_same i rs (s.world.answer i ops (own_globals s) s.rest) (s.world.others i ops (own_globals s) s.rest (further_globals s)) us s after h
      (others_none h i ops (own_globals s)) (sound_answer h i ops rs a typed) free e

  answer_locals : (a : Answer) (others us : List Value) (s after : State) (n : ℕ) → answered a others s ≡ Ends us after →
      read (local n) after ≡ read (local n) s
  answer_locals (Gives vs gs r) others us s after n e = ap (read (local n)) (sym (ends_state vs us (record s { globals = gs ++ others; rest = r }) after e))
  answer_locals (Fails cause gs r) others us s after n e = absurd cc

  written_same : (x y : Variable) (v : Value) (vs us : List Value) (s after : State) → same_variable x y ≡ false →
      ◌≡◌ {A = Outcome} (Ends vs (write y v s)) (Ends us after) → read x after ≡ read x s
  written_same x y v vs us s after differ e = ap (read x) (sym (ends_state vs us (write y v s) after e)) ∙ read_write x y v s differ

  -- a row that doesn't write the variable
  row_keeps : (x : Variable) (row : IntegerRow) (ops us : List Value) (rs : List PrimitiveTypeInfo) (s after : State) → HasTypes context s →
      All IsValue ops → row_types context row (types ops) ≡ Some rs → row_writes_variable x row ≡ false → effect row ops s ≡ Ends us after →
      read x after ≡ read x s
  row_keeps x (constant t n) ops us rs s after h a typed free e = ap (read x) (row_same (constant t n) ops us rs s after h a typed refl e)
  row_keeps x (operation f) ops us rs s after h a typed free e = ap (read x) (row_same (operation f) ops us rs s after h a typed refl e)
  row_keeps x (get y) ops us rs s after h a typed free e = ap (read x) (row_same (get y) ops us rs s after h a typed refl e)
  row_keeps x (set y) [] us rs s after h a typed free e = absurd cc
  row_keeps x (set y) (v ∷ vs) us rs s after h a typed free e = written_same x y v [] us s after free e
  row_keeps x (tee y) [] us rs s after h a typed free e = absurd cc
  row_keeps x (tee y) (v ∷ vs) us rs s after h a typed free e = written_same x y v (v ∷ []) us s after free e
  row_keeps x discard ops us rs s after h a typed free e = ap (read x) (row_same discard ops us rs s after h a typed refl e)
  row_keeps x select ops us rs s after h a typed free e = ap (read x) (row_same select ops us rs s after h a typed refl e)
  row_keeps x nop ops us rs s after h a typed free e = ap (read x) (row_same nop ops us rs s after h a typed refl e)
  row_keeps (local n) (other i) ops us rs s after h a typed free e =
      answer_locals (s.world.answer i ops (own_globals s) s.rest) (s.world.others i ops (own_globals s) s.rest (further_globals s)) us s after n e
  row_keeps (global n) (other i) ops us rs s after h a typed free e = ap (read (global n)) (row_same (other i) ops us rs s after h a typed free e)

  -- ---- code

  -- a step that ends is one of typed operands
  step_parts : (row : IntegerRow) (stack vs : List Value) (s after : State) → HasTypes context s → All IsValue stack → step row stack s ≡ Ends vs after →
      (ops us : List Value) × (rs : List PrimitiveTypeInfo) × All IsValue ops × (row_types context row (types ops) ≡ Some rs)
      × (effect row ops s ≡ Ends us after)
  step_parts row stack vs s after h a e =
      let k = length stack - operand_count s.world.info row in
      let ops = drop k stack in
      let (us, is) = above_ends (take k stack) (act row ops s) vs after e in
      let (rs, typed, does) = only_ends (row_types (state_context s) row (types ops)) (effect row ops s) us after is in
      (ops, us, rs, All-drop IsValue k stack a, ap (λ c. row_types c row (types ops)) (sym (context_is h)) ∙ typed, does)

  step_same : (row : IntegerRow) (stack vs : List Value) (s after : State) → HasTypes context s → All IsValue stack → row_changes row ≡ false →
      step row stack s ≡ Ends vs after → after ≡ s
  step_same row stack vs s after h a free e =
      let (ops, us, rs, values, typed, does) = step_parts row stack vs s after h a e in row_same row ops us rs s after h values typed free does

  pub run_same : (code : List Instruction) (stack vs : List Value) (s after : State) → HasTypes context s → All IsValue stack → code_changes code ≡ false →
      run code stack s ≡ Ends vs after → after ≡ s
  run_same [] stack vs s after h a free e = sym (ends_state stack vs s after e)
  run_same (i ∷ code) stack vs s after h a free e =
      let row = integer_row i in
      let p = or_parts (row_changes row) (code_changes code) free in
      let (us, m, is, next) = then_ends (step row stack s) (run code) vs after e in
      let k = subst (Keeps context) is (step_keeps h row stack a) in
      run_same code us vs m after k.1 k.0 p.1 next ∙ step_same row stack us s m h a p.0 is

  run_reads : (x : Variable) (code : List Instruction) (stack vs : List Value) (s after : State) → HasTypes context s → All IsValue stack →
      code_writes x code ≡ false → run code stack s ≡ Ends vs after → read x after ≡ read x s
  run_reads x [] stack vs s after h a free e = ap (read x) (sym (ends_state stack vs s after e))
  run_reads x (i ∷ code) stack vs s after h a free e =
      let row = integer_row i in
      let p = or_parts (row_writes_variable x row) (code_writes x code) free in
      let (us, m, is, next) = then_ends (step row stack s) (run code) vs after e in
      let k = subst (Keeps context) is (step_keeps h row stack a) in
      let (ops, ws, rs, values, typed, does) = step_parts row stack us s m h a is in
      run_reads x code us vs m after k.1 k.0 p.1 next ∙ row_keeps x row ops ws rs s m h values typed p.0 does

  -- ---- code that reads what is left

  -- the variables that the code doesn't write hold the same in both states
  abbrev Left : List Instruction → State → State → Type 0
  Left code s after = (x : Variable) → code_writes x code ≡ false → read x after ≡ read x s

  not_written : (b : Bool) → not b ≡ true → b ≡ false
  not_written true e = absurd cc
  not_written false e = refl

  -- such a row does the same in both
  row_left : (code : List Instruction) (row : IntegerRow) (ops us : List Value) (s after m : State) → Left code s after →
      row_is_left code row ≡ true → effect row ops s ≡ Ends us m → (m ≡ s) × (effect row ops after ≡ Ends us after)
  row_left code (constant t n) ops us s after m l free e =
      (sym (ends_state _ us s m e), ap (λ (x : List Value). Ends x after) (ends_values _ us s m e))
  row_left code (operation f) ops us s after m l free e = go (f.value (map (λ v. v.number) ops)) e
    where
      go : (o : Option ℕ) → number_or_trap f.result o (division_trap_cause (map (λ v. v.number) ops)) s ≡ Ends us m →
          (m ≡ s) × (number_or_trap f.result o (division_trap_cause (map (λ v. v.number) ops)) after ≡ Ends us after)
      go (Some n) e = (sym (ends_state _ us s m e), ap (λ (x : List Value). Ends x after) (ends_values _ us s m e))
      go None e = absurd cc
  row_left code (get x) ops us s after m l free e =
      let there : read x after ≡ read x s = l x (not_written (code_writes x code) free) in
      let both_do = go (read x s) e in
      (both_do.0, ap (λ (o : Option Value). read_of o after) there ∙ both_do.1)
    where
      go : (o : Option Value) → read_of o s ≡ Ends us m → (m ≡ s) × (read_of o after ≡ Ends us after)
      go (Some v) e = (sym (ends_state (v ∷ []) us s m e), ap (λ (x : List Value). Ends x after) (ends_values (v ∷ []) us s m e))
      go None e = absurd cc
  row_left code (set x) ops us s after m l free e = absurd cc
  row_left code (tee x) ops us s after m l free e = absurd cc
  row_left code discard ops us s after m l free e =
      (sym (ends_state [] us s m e), ap (λ (x : List Value). Ends x after) (ends_values [] us s m e))
  row_left code select [] us s after m l free e = absurd cc
  row_left code select (v ∷ []) us s after m l free e = absurd cc
  row_left code select (v ∷ u ∷ []) us s after m l free e = absurd cc
  row_left code select (v ∷ u ∷ c ∷ vs) us s after m l free e =
      (sym (ends_state _ us s m e), ap (λ (x : List Value). Ends x after) (ends_values _ us s m e))
  row_left code nop ops us s after m l free e =
      (sym (ends_state [] us s m e), ap (λ (x : List Value). Ends x after) (ends_values [] us s m e))
  row_left code (other i) ops us s after m l free e = absurd cc

  step_left : (code : List Instruction) (row : IntegerRow) (stack vs : List Value) (s after m : State) → HasTypes context s → HasTypes context after →
      All IsValue stack → Left code s after → row_is_left code row ≡ true → step row stack s ≡ Ends vs m →
      (m ≡ s) × (step row stack after ≡ Ends vs after)
  step_left code row stack vs s after m h g a l free e =
      let k = length stack - operand_count s.world.info row in
      let ops = drop k stack in
      let (us, is) = above_ends (take k stack) (act row ops s) vs m e in
      let (rs, typed, does) = only_ends (row_types (state_context s) row (types ops)) (effect row ops s) us m is in
      let (same, there) = row_left code row ops us s after m l free does in
      let values : take k stack ++ us ≡ vs =
      ends_values (take k stack ++ us) vs m m (ap (above (take k stack)) (sym is) ∙ e) in
      let count : length stack - operand_count after.world.info row ≡ k =
      ap (λ (x : Module). length stack - operand_count x row) (g.info_is ∙ sym h.info_is) in (
        same,
        ap (λ (j : ℕ). above (take j stack) (act row (drop j stack) after)) count ∙
            (ap (above (take k stack)) (ap (λ (o : Option (List PrimitiveTypeInfo)). only_if (is_some o) (effect row ops after))
            (ap (λ (c : Context). row_types c row (types ops)) (context_is g ∙ sym (context_is h)) ∙ typed) ∙ there) ∙
            ap (λ (x : List Value). Ends x after) values),
      )

  run_left : (code beside : List Instruction) (stack vs : List Value) (s after m : State) → HasTypes context s → HasTypes context after →
      All IsValue stack → Left code s after → is_left code beside ≡ true → run beside stack s ≡ Ends vs m →
      run beside stack after ≡ Ends vs after
  run_left code [] stack vs s after m h g a l free e = ap (λ (x : List Value). Ends x after) (ends_values stack vs s m e)
  run_left code (i ∷ beside) stack vs s after m h g a l free e =
      let row = integer_row i in
      let p = and_parts (row_is_left code row) (is_left code beside) free in
      let (us, u, is, next) = then_ends (step row stack s) (run beside) vs m e in
      let (same, there) = step_left code row stack us s after u h g a l p.0 is in
      let k = subst (Keeps context) is (step_keeps h row stack a) in
      ap (λ (o : Outcome). then_run o (run beside)) there ∙
      run_left code beside us vs s after m h g k.0 l p.1 (ap (run beside us) (sym same) ∙ next)

-- ---- typed code alone

known_types : (ts us : List PrimitiveTypeInfo) → known ts ≡ known us → ts ≡ us
known_types [] [] e = refl
known_types [] (u ∷ us) e = absurd cc
known_types (t ∷ ts) [] e = absurd cc
known_types (t ∷ ts) (u ∷ us) e =
    let one : t ≡ u = cc in let rest : known ts ≡ known us = cc in
    ap₂ (λ (x : PrimitiveTypeInfo) (xs : List PrimitiveTypeInfo). x ∷ xs) one (known_types ts us rest)

code_alone : ValidCodeRuns → (context : Context) (t : PrimitiveTypeInfo) (code : List Instruction) → Pushes context code [] (t ∷ []) → IsAlone context t code
code_alone valid context t code pushes = record {
  does = run code [];
  typed = λ s h. go (run code [] s) (own_ends valid context code (t ∷ []) pushes s h) (run_keeps context code [] s h (All-nil IsValue));
  gives = λ stack s a h. own_over valid context code (t ∷ []) pushes stack s h;
}
  where
    go : (o : Outcome) → EndsIn context [] (with_types (t ∷ []) empty_frame) o → Keeps context o → EndsTyped context (t ∷ []) o
    go (Ends us u) (ws, is, values, a, typed) k =
        (ap types is ∙ sym (known_types (t ∷ []) (types ws) values.operands_are), a, typed)
    go (Traps cause gs r) e k = k
    go Stuck e k = absurd e

-- ---- what it leaves

module _ (context : Context) (t u : PrimitiveTypeInfo) (code beside : List Instruction) (alone : IsAlone context t code) (pure : IsPure context u beside) where
  ran : (s after : State) (vs : List Value) → HasTypes context s → alone.does s ≡ Ends vs after → run code [] s ≡ Ends vs after
  ran s after vs h e = alone.gives [] s (All-nil IsValue) h ∙ ap (above []) e

  typed_after : (s after : State) (vs : List Value) → HasTypes context s → alone.does s ≡ Ends vs after → HasTypes context after
  typed_after s after vs h e = (subst (EndsTyped context (t ∷ [])) e (alone.typed s h)).2

  all_stay : code_changes code ≡ false → LeavesValue context t u code beside alone pure
  all_stay free s after vs h e = ap pure.value (run_same context code [] vs s after h (All-nil IsValue) free (ran s after vs h e))

  left_stay : is_left code beside ≡ true → LeavesValue context t u code beside alone pure
  left_stay free s after vs h e =
      let g = typed_after s after vs h e in
      let same : Ends (pure.value after ∷ []) after ≡ Ends (pure.value s ∷ []) after =
      sym (pure.gives [] after (All-nil IsValue) g) ∙
      run_left context code beside [] (pure.value s ∷ []) s after s h g (All-nil IsValue)
      (λ x n. run_reads context x code [] vs s after h (All-nil IsValue) n (ran s after vs h e)) free (pure.gives [] s (All-nil IsValue) h) in
      one_is (pure.value after) (pure.value s) (ends_values (pure.value after ∷ []) (pure.value s ∷ []) after after same)
    where
      one_is : (v w : Value) → ◌≡◌ {A = List Value} (v ∷ []) (w ∷ []) → v ≡ w
      one_is v w e = cc

pub code_is_alone : ValidCodeRuns → CodeIsAlone
code_is_alone valid = record {
  alone = code_alone valid;
  constant_stays = λ context t u code i k n alone pure is.
      left_stay context t u code (i ∷ []) alone pure (ap (λ (row : IntegerRow). row_is_left code row && true) is);
  variable_stays = λ context t u code i x alone pure is free.
      left_stay context t u code (i ∷ []) alone pure
      (ap (λ (row : IntegerRow). row_is_left code row && true) is ∙ ap (λ (b : Bool). not b && true) free);
  left_stays = left_stay;
  all_stays = all_stay;
}
