-- Code that pushes runs the same above every stack, and a branch to the end of a block drops what lies beneath what it carries.
use Rattle.std.proofs.Common.{◌≡◌, ℕ, suc, ◌-◌, ◌<◌, ◌≤◌, Bool, true, false, List, [], ◌∷◌, ◌++◌, length, take, drop, Option, Some, None}
use Rattle.std.proofs.Common.{refl, sym, ap, ap₂, ◌∙◌, subst, arith, append-nil, append_assoc}
use Rattle.std.specs.Prelude.{◌≢◌, ◌||◌, ◌^◌, nat_le, option_map, option_and_then, if◌then◌else◌}
use Rattle.std.specs.List.{All}
use Rattle.std.proofs.lemmas.Bool.{leb-true}
use Rattle.std.proofs.lemmas.List.{take_at, drop_at, take-append-drop, length-append, length-drop, length-map}
use Rattle.std.proofs.lemmas.List.Elements.{All-nil, All-cons, All-append}
use Rattle.wasm_code.specs.Instruction.{Instruction}
use Rattle.wasm_code.specs.declared.immediate.BlockType.{BlockType}
use Rattle.wasm_types.specs.Module.{Module}
use Rattle.wasm_types.specs.declared.types.PrimitiveTypeInfo.{PrimitiveTypeInfo}
use Rattle.wasm_types.specs.declared.types.PrimitiveTypeInfo.TheVariants as primitive
use Rattle.wasm_execution.specs.declared.integer.IntegerType.TheVariants as integer
use Rattle.wasm_execution.specs.Values.{Value, IsValue, types, whole, Context, State, HasTypes, Outcome, Ends, Traps, Stuck, then_run, above}
use Rattle.wasm_execution.specs.IntegerRow.{IntegerRow, constant, operand_count, integer_row}
use Rattle.wasm_execution.specs.Machine.{act, step, run}
use Rattle.wasm_execution.specs.Agreement.{with_globals}
use Rattle.wasm_execution.specs.OutcomeLemmas.{above_above, run_one, length_types}
use Rattle.wasm_execution.specs.RowLemmas.{and_then_some, step_at}
use Rattle.wasm_execution.specs.StateLemmas.{with_more}
use Rattle.wasm_equivalence.specs.validation.Sound.{HasValues, EndsIn, ValidCodeRuns}
use Rattle.wasm_equivalence.specs.control.Blocks.{arity_of}
use Rattle.wasm_equivalence.specs.control.Standard.{last_of, unwound}
use Rattle.wasm_equivalence.specs.validation.Algorithm.{known, Frame, can_pop, popped, with_pushed, row_entries, check_row, check_code}
use Rattle.wasm_equivalence.specs.validation.StaysValid.{with_types, Pushes}
use Rattle.wrapped_code.specs.Wrapped.{Wrapped, plain, both, leaving, exits, trap, picked_by, picked, run_wrapped, WrappedRunsAs}
use Rattle.wrapped_code.specs.Ways.{IsPure}
use Rattle.wrapped_code.proofs.ValueLemmas.{last_is, front_is, small_is, run_constant, pure_more}

if_some : {A : Type 0} (b : Bool) (o : Option A) (x : A) → (if b then o else None) ≡ Some x → b ≡ true
if_some true o x e = refl
if_some false o x e = absurd cc

or_false : (b c : Bool) → c ≡ false → b || c ≡ true → b ≡ true
or_false true c e h = refl
or_false false true e h = absurd cc
or_false false false e h = h

length_known : (ts : List PrimitiveTypeInfo) → length (known ts) ≡ length ts
length_known ts = length-map ts (λ (t : PrimitiveTypeInfo). Some t)

-- the frame of code that needs nothing
abbrev pub empty_frame : Frame
empty_frame = record { opened = None; starts = []; ends = []; operands = []; unreachable = false }

module _ (valid : ValidCodeRuns) (context : Context) where
  -- ---- above every stack

  step_over : (row : IntegerRow) (f g : Frame) (below vs : List Value) (s : State) → check_row context row f ≡ Some g → HasValues f vs →
      HasTypes context s → step row (below ++ vs) s ≡ above below (step row vs s)
  step_over row f g below vs s e h typed =
      let n = operand_count context.info row in
      let k = length vs - n in
      let can : can_pop n f ≡ true = if_some (can_pop n f) (option_map (with_pushed n f) (row_entries context row (popped n f))) g e in
      let fits : n ≤ length f.operands = leb-true n (length f.operands) (or_false (nat_le n (length f.operands)) f.unreachable h.reached can) in
      let count : length f.operands ≡ length vs = ap length h.operands_are ∙ (length_known (types vs) ∙ length_types vs) in
      let top : operand_count s.world.info row ≡ length (drop k vs) =
      ap (λ (m : Module). operand_count m row) typed.info_is ∙
      ((let q : n ≡ length vs - (length vs - n) = omega arith in q) ∙ sym (length-drop k vs)) in
      let parts : take k vs ++ drop k vs ≡ vs = take-append-drop k vs in
      ap (λ (x : List Value). step row x s) (ap (λ (x : List Value). below ++ x) (sym parts) ∙ sym (append_assoc below (take k vs) (drop k vs))) ∙
      (step_at row (below ++ take k vs) (drop k vs) s top ∙
      (above_above below (take k vs) (act row (drop k vs) s) ∙
      ap (above below) (sym (step_at row (take k vs) (drop k vs) s top) ∙ ap (λ (x : List Value). step row x s) parts)))

  run_over : (code : List Instruction) (f g : Frame) (below vs : List Value) (s : State) → check_code context code f ≡ Some g → HasValues f vs →
      All IsValue vs → HasTypes context s → run code (below ++ vs) s ≡ above below (run code vs s)
  run_over [] f g below vs s e h a typed = refl
  run_over (i ∷ code) f g below vs s e h a typed =
      let row = integer_row i in
      let (d, b, c) = and_then_some (check_code context code) (check_row context row f) g e in
      let one : EndsIn context [] d (run (i ∷ []) vs s) = valid context (i ∷ []) f d [] vs s (ap (option_and_then (check_code context [])) b) h a typed in
      ap (λ (o : Outcome). then_run o (run code)) (step_over row f d below vs s b h typed) ∙
      go d (step row vs s) (subst (EndsIn context [] d) (run_one i row vs s refl) one) (λ ws u k l m. run_over code d g below ws u c k l m)
    where
      go : (d : Frame) (o : Outcome) → EndsIn context [] d o →
          ((ws : List Value) (u : State) → HasValues d ws → All IsValue ws → HasTypes context u → run code (below ++ ws) u ≡ above below (run code ws u)) →
          then_run (above below o) (run code) ≡ above below (then_run o (run code))
      go d (Ends us u) (ws, is, k, l, m) next =
          ap (λ (x : List Value). run code (below ++ x) u) is ∙
          (next ws u k (subst (All IsValue) is l) m ∙ ap (λ (x : List Value). above below (run code x u)) (sym is))
      go d (Traps cause gs r) h next = refl
      go d Stuck h next = absurd h

  module _ (own : List Instruction) (us : List PrimitiveTypeInfo) (pushes : Pushes context own [] us) where
    pub own_ends : (s : State) → HasTypes context s → EndsIn context [] (with_types us empty_frame) (run own [] s)
    own_ends s typed =
        valid context own empty_frame (with_types us empty_frame) [] [] s (pushes empty_frame)
        (record { operands_are = refl; reached = refl }) (All-nil IsValue) typed

    pub own_over : (stack : List Value) (s : State) → HasTypes context s → run own stack s ≡ above stack (run own [] s)
    own_over stack s typed =
        ap (λ (x : List Value). run own x s) (sym (append-nil stack)) ∙
        run_over own empty_frame (with_types us empty_frame) stack [] s (pushes empty_frame)
        (record { operands_are = refl; reached = refl }) (All-nil IsValue) typed

    pub never_stuck : (stack : List Value) (s : State) → HasTypes context s → run own stack s ≢ Stuck
    never_stuck stack s typed e = go (run own [] s) (own_ends s typed) (sym (own_over stack s typed) ∙ e)
      where
        go : (o : Outcome) → EndsIn context [] (with_types us empty_frame) o → above stack o ≡ Stuck → ⊥
        go (Ends vs u) h z = absurd cc
        go (Traps cause gs r) h z = absurd cc
        go Stuck h z = absurd h

    -- ---- a branch to the end

    -- it takes what the code pushed, and the stack below the block
    abbrev pub taken : (height : ℕ) → List Value → State → Outcome
    taken height vs u = Ends (unwound height (length us) vs) u

    drops : (stack extra : List Value) (o : Outcome) → EndsIn context [] (with_types us empty_frame) o →
        then_run (above (stack ++ extra) o) (taken (length stack - 0)) ≡ above stack o
    drops stack extra (Ends xs u) (ws, is, values, b, typed) =
        let same : xs ≡ ws = is in
        let count : length us ≡ length xs =
        sym (length_known us) ∙ (ap length values.operands_are ∙ (length_known (types ws) ∙ (length_types ws ∙ ap length (sym same)))) in
        let all = length-append (stack ++ extra) xs in
        ap (λ (x : List Value). Ends x u)
        (ap₂ (λ (x y : List Value). x ++ y)
        (ap (take (length stack - 0)) (append_assoc stack extra xs) ∙ take_at stack (extra ++ xs) (length stack - 0) (omega arith))
        (drop_at (stack ++ extra) xs (length ((stack ++ extra) ++ xs) - length us) (omega arith)))
    drops stack extra (Traps cause gs r) h = refl
    drops stack extra Stuck h = refl

    taken_more : (height : ℕ) (more : List Value) (o : Outcome) →
        then_run (with_more more o) (taken height) ≡ with_more more (then_run o (taken height))
    taken_more height more (Ends vs s) = refl
    taken_more height more (Traps cause gs r) = refl
    taken_more height more Stuck = refl

    pub branches : (stack extra more : List Value) (s : State) → HasTypes context s →
        then_run (with_more more (run own (stack ++ extra) s)) (taken (length stack - 0)) ≡ with_more more (run own stack s)
    branches stack extra more s typed =
        taken_more (length stack - 0) more (run own (stack ++ extra) s) ∙
        ap (with_more more) (ap (λ (o : Outcome). then_run o (taken (length stack - 0))) (own_over (stack ++ extra) s typed) ∙
        (drops stack extra (run own [] s) (own_ends s typed) ∙ sym (own_over stack s typed)))

-- ---- a branch under a constant that isn't zero

-- it is taken
sure : (one : Instruction) (n : ℕ) → suc n < 2 ^ 32 → integer_row one ≡ constant integer.I32 (suc n) → (f : List Value → State → Outcome)
    (other : List Value → State → Outcome) (o : Outcome) →
    then_run (then_run o (run (one ∷ []))) (λ vs u. picked (last_of 1 vs) (f (take (length vs - 1) vs) u) (other (take (length vs - 1) vs) u)) ≡ then_run o f
sure one n l e f other (Ends vs u) =
    ap (λ (o : Outcome). then_run o (λ vs u. picked (last_of 1 vs) (f (take (length vs - 1) vs) u) (other (take (length vs - 1) vs) u)))
    (run_constant one (suc n) vs u e) ∙
    (ap₂ (λ (x y : List Value). picked x (f y u) (other y u)) (last_is vs (whole integer.I32 (suc n))) (front_is vs (whole integer.I32 (suc n))) ∙
    ap (λ (k : ℕ). picked_by primitive.I32 k (f vs u) (other vs u)) (small_is n l))
sure one n l e f other (Traps cause gs r) = refl
sure one n l e f other Stuck = refl

-- ---- what runs as before

module _ (valid : ValidCodeRuns) (context : Context) (requests : List PrimitiveTypeInfo) (own : List Instruction) (t : BlockType) (c : Wrapped)
    (none : (arity_of context.info t).starts ≡ []) (pushes : Pushes context own [] (arity_of context.info t).ends)
    (runs : WrappedRunsAs context requests own c) where
  abbrev us : List PrimitiveTypeInfo
  us = (arity_of context.info t).ends

  -- the block begins at the height of the stack
  abbrev at_end : (stack : List Value) → List Value → State → Outcome
  at_end stack vs u = Ends (unwound (length stack - length (arity_of context.info t).starts) (length us) vs) u

  lands : (stack extra more : List Value) (s : State) → HasTypes context s → (o : Outcome) → o ≡ with_more more (run own (stack ++ extra) s) →
      then_run o (at_end stack) ≡ with_more more (run own stack s)
  lands stack extra more s typed o e =
      ap (λ (o : Outcome). then_run o (at_end stack)) e ∙
      (ap (λ (ts : List PrimitiveTypeInfo). then_run (with_more more (run own (stack ++ extra) s))
      (λ vs u. Ends (unwound (length stack - length ts) (length us) vs) u)) none ∙
      branches valid context own us pushes stack extra more s typed)

  -- above what pure code left
  record Over (stack requested : List Value) (s : State) (v : Value) (between : List Value) : Type 0 where
    last : List Value
    kept : types last ≡ types requested
    is : run_wrapped context.info c (stack ++ v ∷ []) (with_globals between s) ≡ with_more last (run own (stack ++ v ∷ []) s)

  goes_over : (stack requested between : List Value) (s : State) (v : Value) → All IsValue stack → IsValue v → HasTypes context s →
      types requested ≡ requests → types between ≡ types requested → Over stack requested s v between
  goes_over stack requested between s v a i typed r e =
      let (last, d, is) = runs (stack ++ v ∷ []) between s (All-append IsValue stack (v ∷ []) a (All-cons IsValue v [] i (All-nil IsValue))) typed (e ∙ r)
      (never_stuck valid context own us pushes (stack ++ v ∷ []) s typed) in
      record { last = last; kept = d ∙ e; is = is }

  pub branch_over : (below : List Instruction) (dead : Wrapped) (u : PrimitiveTypeInfo) → IsPure context u below →
      WrappedRunsAs context requests own (leaving t (both (plain below) c) dead)
  branch_over below dead u pure stack requested s a typed r n =
      let v = pure.value s in
      let (between, e, there) = pure_more context u below pure stack requested s a typed in
      let o = goes_over stack requested between s v a (pure.is_value s typed) typed r e in (
        o.last,
        o.kept,
        ap (λ (o : Outcome). then_run (then_run o (run_wrapped context.info c)) (at_end stack)) there ∙
            lands stack (v ∷ []) o.last s typed (run_wrapped context.info c (stack ++ v ∷ []) (with_globals between s)) o.is,
      )

  module _ (one : Instruction) (k : ℕ) (small : suc k < 2 ^ 32) (is_one : integer_row one ≡ constant integer.I32 (suc k)) where
    abbrev not_taken : List Value → State → Outcome
    not_taken vs u = run_wrapped context.info trap vs u

    pub sure_branch : WrappedRunsAs context requests own (exits t (both c (plain (one ∷ []))) trap)
    sure_branch stack requested s a typed r n =
        let (last, d, is) = runs stack requested s a typed r n in (
          last,
          d,
          sure one k small is_one (at_end stack) not_taken (run_wrapped context.info c stack (with_globals requested s)) ∙
              lands stack [] last s typed (run_wrapped context.info c stack (with_globals requested s))
              (is ∙ ap (λ (x : List Value). with_more last (run own x s)) (sym (append-nil stack))),
        )

    pub sure_branch_over : (below : List Instruction) (u : PrimitiveTypeInfo) → IsPure context u below →
        WrappedRunsAs context requests own (exits t (both (plain below) (both c (plain (one ∷ [])))) trap)
    sure_branch_over below u pure stack requested s a typed r n =
        let v = pure.value s in
        let (between, e, there) = pure_more context u below pure stack requested s a typed in
        let o = goes_over stack requested between s v a (pure.is_value s typed) typed r e in (
          o.last,
          o.kept,
          ap (λ (o : Outcome). then_run (then_run o (run_wrapped context.info (both c (plain (one ∷ [])))))
              (λ vs u. picked (last_of 1 vs) (at_end stack (take (length vs - 1) vs) u) (not_taken (take (length vs - 1) vs) u))) there ∙
              (sure one k small is_one (at_end stack) not_taken (run_wrapped context.info c (stack ++ v ∷ []) (with_globals between s)) ∙
              lands stack (v ∷ []) o.last s typed (run_wrapped context.info c (stack ++ v ∷ []) (with_globals between s)) o.is),
        )
