-- Which wrapped code runs as the instructions that it replaces.
use Rattle.std.proofs.Common.{◌≡◌, ℕ, zero, suc, ◌-◌, Bool, true, false, List, [], ◌∷◌, ◌++◌, length, take, Some, None, refl, sym, ap, ap₂}
use Rattle.std.proofs.Common.{◌∙◌, subst, arith, append-nil, append_assoc}
use Rattle.std.specs.Prelude.{◌≢◌, ◌&&◌, ◌==◌, if◌then◌else◌}
use Rattle.std.specs.List.{All}
use Rattle.std.proofs.lemmas.Bool.{ne_eqb}
use Rattle.std.proofs.lemmas.List.{take_at, drop_at, length-append}
use Rattle.std.proofs.lemmas.List.Elements.{All-nil, All-cons, All-append}
use Rattle.wasm_code.specs.Instruction.{Instruction}
use Rattle.wasm_code.specs.declared.immediate.BlockType.{BlockType}
use Rattle.wasm_types.specs.Module.{Module}
use Rattle.wasm_types.specs.declared.types.PrimitiveTypeInfo.{PrimitiveTypeInfo}
use Rattle.wasm_types.specs.declared.types.PrimitiveTypeInfo.TheVariants as primitive
use Rattle.wasm_execution.specs.declared.integer.IntegerType.TheVariants as integer
use Rattle.wasm_execution.specs.Values.{Value, IsValue, types, whole, Context, State, HasTypes, Outcome, Ends, Traps, Stuck, then_run, above}
use Rattle.wasm_execution.specs.IntegerRow.{select, is_numeric, if_typed, row_types, integer_row}
use Rattle.wasm_execution.specs.Machine.{state_context, step, run}
use Rattle.wasm_execution.specs.Agreement.{with_globals, EndsTyped}
use Rattle.wasm_execution.specs.Laws.{Keeps}
use Rattle.wasm_execution.specs.OutcomeLemmas.{run_append, run_one, length_types}
use Rattle.wasm_execution.specs.RowLemmas.{same_type_self, step_at, act_is}
use Rattle.wasm_execution.specs.StateLemmas.{with_more, Follows}
use Rattle.wasm_execution.specs.SameLemmas.{run_follows}
use Rattle.wasm_execution.specs.TypeLemmas.{run_keeps}
use Rattle.wasm_equivalence.specs.validation.Sound.{EndsIn, ValidCodeRuns}
use Rattle.wasm_equivalence.specs.control.Blocks.{arity_of}
use Rattle.wasm_equivalence.specs.control.Standard.{last_of, unwound}
use Rattle.wasm_equivalence.specs.validation.Algorithm.{known, Frame}
use Rattle.wasm_equivalence.specs.validation.StaysValid.{with_types, Pushes}
use Rattle.wrapped_code.specs.Wrapped.{once, Wrapped, plain, both, choice, exits, picked_by, picked, run_wrapped, WrappedRunsAs}
use Rattle.wrapped_code.specs.Ways.{IsPure, IsAlone, LeavesValue, WrappedCodeRuns}
use Rattle.wrapped_code.proofs.ValueLemmas.{last_is, front_is, small_is, run_constant, pure_more}
use Rattle.wrapped_code.proofs.OverLemmas.{branch_over, sure_branch, sure_branch_over}

-- ---- a conditional

run_choice : (m : Module) (code : List Instruction) (t : BlockType) (c d : Wrapped) (v : Value) (stack : List Value) (s u : State) →
    run code stack s ≡ Ends (stack ++ v ∷ []) u →
    run_wrapped m (both (plain code) (choice t c d)) stack s ≡ picked_by v.type v.number (run_wrapped m c stack u) (run_wrapped m d stack u)
run_choice m code t c d v stack s u e =
    ap (λ (o : Outcome). then_run o (run_wrapped m (choice t c d))) e ∙
    ap₂ (λ (last below : List Value). picked last (run_wrapped m c below u) (run_wrapped m d below u)) (last_is stack v) (front_is stack v)

-- ---- a branch to the end

leaves : (valid : ValidCodeRuns) (context : Context) (own : List Instruction) (us : List PrimitiveTypeInfo) → Pushes context own [] us →
    (stack : List Value) (s : State) → All IsValue stack → HasTypes context s → (o : Outcome) → run own stack s ≡ o →
    then_run o (λ vs u. Ends (unwound (length stack - 0) (length us) vs) u) ≡ o
leaves valid context own us h stack s a t (Ends vs u) e =
    let f : Frame = record { opened = None; starts = []; ends = []; operands = []; unreachable = false } in
    let none : stack ++ [] ≡ stack = append-nil stack in
    let ends : EndsIn context stack (with_types us f) (run own (stack ++ []) s) =
    valid context own f (with_types us f) stack [] s (h f) (record { operands_are = refl; reached = refl })
    (subst (All IsValue) (sym none) a) t in
    let (ws, is, values, b, typed) = subst (EndsIn context stack (with_types us f)) (ap (λ (x : List Value). run own x s) none ∙ e) ends in
    let count : length us ≡ length ws =
    sym (length_known us) ∙ (ap length values.operands_are ∙ (length_known (types ws) ∙ length_types ws)) in
    let all = length-append stack ws in
    ap (λ (x : List Value). Ends x u)
    (ap (unwound (length stack - 0) (length us)) is ∙
    (ap₂ (λ (x y : List Value). x ++ y) (take_at stack ws (length stack - 0) (omega arith))
    (drop_at stack ws (length (stack ++ ws) - length us) (omega arith)) ∙ sym is))
  where
    length_known : (ts : List PrimitiveTypeInfo) → length (known ts) ≡ length ts
    length_known [] = refl
    length_known (t ∷ ts) = ap suc (length_known ts)
leaves valid context own us h stack s a t (Traps cause gs r) e = refl
leaves valid context own us h stack s a t Stuck e = refl

then_follows : (more : List Value) (f : List Value → State → Outcome) (o p : Outcome) → ((vs : List Value) (s : State) (after : List Value) →
    f vs (with_globals after s) ≡ with_more after (f vs s)) → then_run o f ≡ o → Follows more o p → Follows more o (then_run p f)
then_follows more f o p g e (after, t, is) = (after, t, ap (λ (x : Outcome). then_run x f) is ∙ (go o ∙ ap (with_more after) e))
  where
    go : (o : Outcome) → then_run (with_more after o) f ≡ with_more after (then_run o f)
    go (Ends vs s) = g vs s after
    go (Traps cause gs r) = refl
    go Stuck = refl

-- ---- a conditional branch to the end

module _ (valid : ValidCodeRuns) (context : Context) (requests : List PrimitiveTypeInfo) (own : List Instruction) (t : BlockType) (c : Wrapped)
    (condition : List Instruction) (starts : (arity_of context.info t).starts ≡ []) (pushes : Pushes context own [] (arity_of context.info t).ends)
    (pure : IsPure context primitive.I32 condition) (runs : WrappedRunsAs context requests own c) where
  abbrev us : List PrimitiveTypeInfo
  us = (arity_of context.info t).ends

  -- what follows the condition, whichever way it goes
  ways : (height : ℕ) (vs : List Value) (u : State) (k : PrimitiveTypeInfo) (n : ℕ) → k ≡ primitive.I32 → unwound height (length us) vs ≡ vs →
      picked_by k n (Ends (unwound height (length us) vs) u) (Ends vs u) ≡ Ends vs u
  ways height vs u k n e same =
      ap (λ (k : PrimitiveTypeInfo). picked_by k n (Ends (unwound height (length us) vs) u) (Ends vs u)) e ∙ go n
    where
      go : (n : ℕ) → picked_by primitive.I32 n (Ends (unwound height (length us) vs) u) (Ends vs u) ≡ Ends vs u
      go zero = refl
      go (suc n) = ap (λ (x : List Value). Ends x u) same

  ends_are : (vs ws : List Value) (s u : State) → ◌≡◌ {A = Outcome} (Ends vs s) (Ends ws u) → vs ≡ ws
  ends_are vs ws s u e = cc

  exit_follows : WrappedRunsAs context requests own (exits t (both c (plain condition)) (plain []))
  exit_follows stack requested s a typed r n =
      let (after, f, is) = runs stack requested s a typed r n in
      let (last, g, at) = go after (run own stack s) (run_keeps context own stack s typed a)
      (leaves valid context own us pushes stack s a typed (run own stack s) refl) n in
      (last, g ∙ f, ap (λ (o : Outcome). then_run (then_run o (run condition)) next) is ∙ at)
    where
      next : List Value → State → Outcome
      next vs u =
          picked (last_of 1 vs) (Ends (unwound (length stack - length (arity_of context.info t).starts) (length us) (take (length vs - 1) vs)) u)
          (Ends (take (length vs - 1) vs) u)

      go : (more : List Value) (o : Outcome) → Keeps context o →
          then_run o (λ vs u. Ends (unwound (length stack - 0) (length us) vs) u) ≡ o → o ≢ Stuck →
          (after : List Value) × (types after ≡ types more) × (then_run (then_run (with_more more o) (run condition)) next ≡ with_more after o)
      go more (Ends vs u) k e n =
          let v = pure.value u in
          let (after, f, is) = run_follows context condition more vs u k.1 k.0 (λ z. not_stuck vs u (sym (pure.gives vs u k.0 k.1) ∙ z)) in
          let there : run condition vs (with_globals more u) ≡ Ends (vs ++ v ∷ []) (with_globals after u) =
          is ∙ ap (with_more after) (pure.gives vs u k.0 k.1) in
          let same : unwound (length stack - length (arity_of context.info t).starts) (length us) vs ≡ vs =
          ap (λ (ts : List PrimitiveTypeInfo). unwound (length stack - length ts) (length us) vs) starts ∙
          ends_are (unwound (length stack - 0) (length us) vs) vs u u e in (
            after,
            f,
            ap (λ (o : Outcome). then_run o next) there ∙
                (ap₂ (λ (x y : List Value). picked x
                (Ends (unwound (length stack - length (arity_of context.info t).starts) (length us) y) (with_globals after u)) (Ends y (with_globals after u)))
                (last_is vs v) (front_is vs v) ∙
                ways (length stack - length (arity_of context.info t).starts) vs (with_globals after u) v.type v.number (pure.typed u k.1) same),
          )
        where
          not_stuck : (vs : List Value) (u : State) → ◌≡◌ {A = Outcome} (Ends (vs ++ pure.value u ∷ []) u) Stuck → ⊥
          not_stuck vs u z = absurd cc
      go more (Traps cause gs rest) k e n = (more, refl, refl)
      go more Stuck k e n = absurd (n refl)

-- ---- a conditional jump back that isn't taken

module _ (context : Context) (requests : List PrimitiveTypeInfo) (own : List Instruction) (t : BlockType) (c : Wrapped)
    (condition : List Instruction) (pure : IsPure context primitive.I32 condition)
    (zeros : (s : State) → HasTypes context s → (pure.value s).number ≡ 0) (runs : WrappedRunsAs context requests own c) where
  stays : List Value → State → Outcome
  stays vs u = picked (last_of 1 vs) Stuck (Ends (take (length vs - 1) vs) u)

  once_follows : WrappedRunsAs context requests own (once t (both c (plain condition)))
  once_follows stack requested s a typed r n =
      let (after, f, is) = runs stack requested s a typed r n in
      let (last, g, at) = go after (run own stack s) (run_keeps context own stack s typed a) n in (
        last,
        g ∙ f,
        ap (λ (o : Outcome). then_run (then_run o (run condition))
            (λ vs u. picked (last_of 1 vs) Stuck (Ends (take (length vs - 1) vs) u))) is ∙ at,
      )
    where
      go : (more : List Value) (o : Outcome) → Keeps context o → o ≢ Stuck →
          (after : List Value) × (types after ≡ types more)
          × (then_run (then_run (with_more more o) (run condition)) (λ vs u. picked (last_of 1 vs) Stuck (Ends (take (length vs - 1) vs) u)) ≡
          with_more after o)
      go more (Ends vs u) k n =
          let v = pure.value u in
          let (after, f, is) = run_follows context condition more vs u k.1 k.0 (λ z. not_stuck vs u (sym (pure.gives vs u k.0 k.1) ∙ z)) in
          let there : run condition vs (with_globals more u) ≡ Ends (vs ++ v ∷ []) (with_globals after u) =
          is ∙ ap (with_more after) (pure.gives vs u k.0 k.1) in (
            after,
            f,
            ap (λ (o : Outcome). then_run o (λ vs u. picked (last_of 1 vs) Stuck (Ends (take (length vs - 1) vs) u))) there ∙
                (ap₂ (λ (x y : List Value). picked x Stuck (Ends y (with_globals after u))) (last_is vs v) (front_is vs v) ∙
                ap₂ (λ (k : PrimitiveTypeInfo) (n : ℕ). picked_by k n Stuck (Ends vs (with_globals after u))) (pure.typed u k.1) (zeros u k.1)),
          )
        where
          not_stuck : (vs : List Value) (u : State) → ◌≡◌ {A = Outcome} (Ends (vs ++ pure.value u ∷ []) u) Stuck → ⊥
          not_stuck vs u z = absurd cc
      go more (Traps cause gs rest) k n = (more, refl, refl)
      go more Stuck k n = absurd (n refl)

-- ---- a select

one_value : (vs : List Value) (t : PrimitiveTypeInfo) → types vs ≡ t ∷ [] → (v : Value) × (vs ≡ v ∷ []) × (v.type ≡ t)
one_value [] t e = absurd cc
one_value (v ∷ []) t e = (v, refl, cc)
one_value (v ∷ w ∷ vs) t e = absurd cc

-- the select itself
pub run_select : (context : Context) (pick : Instruction) (t : PrimitiveTypeInfo) (stack : List Value) (vx vy vc : Value) (s : State) →
    integer_row pick ≡ select → is_numeric t ≡ true → vx.type ≡ t → vy.type ≡ t → vc.type ≡ primitive.I32 →
    run (pick ∷ []) (((stack ++ vx ∷ []) ++ vy ∷ []) ++ vc ∷ []) s ≡ Ends (stack ++ (if vc.number == 0 then vy else vx) ∷ []) s
run_select context pick t stack vx vy vc s is_select numeric tx ty tc =
    let list : ((stack ++ vx ∷ []) ++ vy ∷ []) ++ vc ∷ [] ≡ stack ++ vx ∷ vy ∷ vc ∷ [] =
    append_assoc (stack ++ vx ∷ []) (vy ∷ []) (vc ∷ []) ∙ append_assoc stack (vx ∷ []) (vy ∷ vc ∷ []) in
    let typed : row_types (state_context s) select (types (vx ∷ vy ∷ vc ∷ [])) ≡ Some (t ∷ []) =
    ap₂ (λ (p : PrimitiveTypeInfo × PrimitiveTypeInfo) (q : PrimitiveTypeInfo). row_types (state_context s) select (p.0 ∷ p.1 ∷ q ∷ []))
    (ap₂ (λ (p q : PrimitiveTypeInfo). (p, q)) tx ty) tc ∙
    ap₂ (λ (p q : Bool). if_typed (p && (q && true)) (t ∷ [])) numeric (same_type_self t) in
    run_one pick select (((stack ++ vx ∷ []) ++ vy ∷ []) ++ vc ∷ []) s is_select ∙
    (ap (λ (z : List Value). step select z s) list ∙
    (step_at select stack (vx ∷ vy ∷ vc ∷ []) s refl ∙
    ap (above stack) (act_is select (vx ∷ vy ∷ vc ∷ []) (t ∷ []) s typed)))

module _ (context : Context) (x y c : List Instruction) (pick : Instruction) (t : PrimitiveTypeInfo)
    (u : BlockType) (is_select : integer_row pick ≡ select) (numeric : is_numeric t ≡ true) (px : IsPure context t x) (py : IsPure context t y)
    (alone : IsAlone context primitive.I32 c) (leaves_x : LeavesValue context primitive.I32 t c x alone px)
    (leaves_y : LeavesValue context primitive.I32 t c y alone py) (stack more : List Value) (s : State) (a : All IsValue stack) (h : HasTypes context s) where
  abbrev vx : Value
  vx = px.value s

  abbrev vy : Value
  vy = py.value s

  abbrev both_on : List Value
  both_on = (stack ++ vx ∷ []) ++ vy ∷ []

  on_top : (stack : List Value) (v : Value) → All IsValue stack → IsValue v → All IsValue (stack ++ v ∷ [])
  on_top stack v b i = All-append IsValue stack (v ∷ []) b (All-cons IsValue v [] i (All-nil IsValue))

  first_on : All IsValue (stack ++ vx ∷ [])
  first_on = on_top stack vx a (px.is_value s h)

  all_on : All IsValue both_on
  all_on = on_top (stack ++ vx ∷ []) vy first_on (py.is_value s h)

  old_does : run (x ++ (y ++ (c ++ pick ∷ []))) stack s ≡ then_run (above both_on (alone.does s)) (run (pick ∷ []))
  old_does =
      run_append x (y ++ (c ++ pick ∷ [])) stack s ∙
      (ap (λ (o : Outcome). then_run o (run (y ++ (c ++ pick ∷ [])))) (px.gives stack s a h) ∙
      (run_append y (c ++ pick ∷ []) (stack ++ vx ∷ []) s ∙
      (ap (λ (o : Outcome). then_run o (run (c ++ pick ∷ []))) (py.gives (stack ++ vx ∷ []) s first_on h) ∙
      (run_append c (pick ∷ []) both_on s ∙
      ap (λ (o : Outcome). then_run o (run (pick ∷ []))) (alone.gives both_on s all_on h)))))

  abbrev new_does : Outcome
  new_does = run_wrapped context.info (both (plain c) (choice u (plain x) (plain y))) stack (with_globals more s)

  -- the chosen part, behind a condition that left the values
  part_follows : (before : List Value) (m : State) → HasTypes context m → px.value m ≡ vx → py.value m ≡ vy → (k : PrimitiveTypeInfo) (n : ℕ) →
      k ≡ primitive.I32 → Follows before (Ends (stack ++ (if n == 0 then vy else vx) ∷ []) m)
      (picked_by k n (run x stack (with_globals before m)) (run y stack (with_globals before m)))
  part_follows before m typed ex ey k n e =
      subst (λ (k : PrimitiveTypeInfo). Follows before (Ends (stack ++ (if n == 0 then vy else vx) ∷ []) m)
      (picked_by k n (run x stack (with_globals before m)) (run y stack (with_globals before m)))) (sym e) (go n)
    where
      go : (n : ℕ) → Follows before (Ends (stack ++ (if n == 0 then vy else vx) ∷ []) m)
          (picked_by primitive.I32 n (run x stack (with_globals before m)) (run y stack (with_globals before m)))
      go zero =
          let (after, d, is) = pure_more context t y py stack before m a typed in
          (after, d, is ∙ ap (λ (v : Value). Ends (stack ++ v ∷ []) (with_globals after m)) ey)
      go (suc n) =
          let (after, d, is) = pure_more context t x px stack before m a typed in (
            after,
            d,
            is ∙ (ap (λ (v : Value). Ends (stack ++ v ∷ []) (with_globals after m)) ex ∙
                ap (λ (b : Bool). Ends (stack ++ (if b then vy else vx) ∷ []) (with_globals after m)) (sym (ne_eqb (suc n) 0 (λ z. omega arith)))),
          )

  after_follows : (o : Outcome) → alone.does s ≡ o → EndsTyped context (primitive.I32 ∷ []) o →
      Follows more (then_run (above both_on o) (run (pick ∷ []))) new_does
  after_follows (Ends vs m) e typed =
      let (v, one, of) = one_value vs primitive.I32 typed.0 in
      let ends : run c stack s ≡ Ends (stack ++ v ∷ []) m =
      alone.gives stack s a h ∙ (ap (above stack) e ∙ ap (λ (x : List Value). Ends (stack ++ x) m) one) in
      let (first, d, is) = run_follows context c more stack s h a (λ z. not_stuck (stack ++ v ∷ []) m (sym ends ∙ z)) in
      let (after, f, at) = part_follows first m typed.2 (leaves_x s m vs h e) (leaves_y s m vs h e) v.type v.number of in (
        after,
        f ∙ d,
        run_choice context.info c u (plain x) (plain y) v stack (with_globals more s) (with_globals first m) (is ∙ ap (with_more first) ends) ∙
            (at ∙ ap (with_more after) (sym (ap (λ (x : List Value). run (pick ∷ []) (both_on ++ x) m) one ∙
            run_select context pick t stack vx vy v m is_select numeric (px.typed s h) (py.typed s h) of))),
      )
    where
      not_stuck : (vs : List Value) (m : State) → ◌≡◌ {A = Outcome} (Ends vs m) Stuck → ⊥
      not_stuck vs m z = absurd cc
  after_follows (Traps cause gs r) e typed =
      let ends : run c stack s ≡ Traps cause gs r = alone.gives stack s a h ∙ ap (above stack) e in
      let (first, d, is) = run_follows context c more stack s h a (λ z. not_stuck (sym ends ∙ z)) in
      (first, d, ap (λ (o : Outcome). then_run o (run_wrapped context.info (choice u (plain x) (plain y)))) (is ∙ ap (with_more first) ends))
    where
      not_stuck : ◌≡◌ {A = Outcome} (Traps cause gs r) Stuck → ⊥
      not_stuck z = absurd cc
  after_follows Stuck e typed = absurd typed

  select_after : Follows more (run (x ++ (y ++ (c ++ pick ∷ []))) stack s) new_does
  select_after =
      subst (λ (o : Outcome). Follows more o new_does) (sym old_does) (after_follows (alone.does s) refl (alone.typed s h))

-- pure code is the same above every stack, and leaves every value
pure_alone : (context : Context) (t : PrimitiveTypeInfo) (code : List Instruction) → IsPure context t code → IsAlone context t code
pure_alone context t code p = record {
  does = λ s. Ends (p.value s ∷ []) s;
  typed = λ s h. (ap (λ (u : PrimitiveTypeInfo). u ∷ []) (p.typed s h), All-cons IsValue (p.value s) [] (p.is_value s h) (All-nil IsValue), h);
  gives = p.gives;
}

ends_in : (vs ws : List Value) (s u : State) → ◌≡◌ {A = Outcome} (Ends vs s) (Ends ws u) → s ≡ u
ends_in vs ws s u e = cc

pure_leaves : (context : Context) (t u : PrimitiveTypeInfo) (code other : List Instruction) (p : IsPure context t code) (q : IsPure context u other) →
    LeavesValue context t u code other (pure_alone context t code p) q
unfolding pure_alone
pure_leaves context t u code other p q s after vs h e = ap q.value (sym (ends_in (p.value s ∷ []) vs s after e))

-- ---- the law

pub wrapped_runs : ValidCodeRuns → WrappedCodeRuns
wrapped_runs valid = record {
  plain_code = λ context requests own code h. h;
  in_block = λ context requests own t c h. h;
  in_loop = λ context requests own t c h. h;
  in_first = λ context requests own t one k c d l e h stack requested s a typed r n.
      let (after, f, is) = h stack requested s a typed r n in
      let one_is = whole integer.I32 (suc k) in (
        after,
        f,
        run_choice context.info (one ∷ []) t c d one_is stack (with_globals requested s) (with_globals requested s)
            (run_constant one (suc k) stack (with_globals requested s) e) ∙
            (ap (λ (n : ℕ). picked_by primitive.I32 n (run_wrapped context.info c stack (with_globals requested s))
            (run_wrapped context.info d stack (with_globals requested s))) (small_is k l) ∙ is),
      );
  in_second = λ context requests own t none c d e h stack requested s a typed r n.
      let (after, f, is) = h stack requested s a typed r n in (
        after,
        f,
        run_choice context.info (none ∷ []) t c d (whole integer.I32 0) stack (with_globals requested s) (with_globals requested s)
            (run_constant none 0 stack (with_globals requested s) e) ∙ is,
      );
  before_branch = λ context requests own t c dead starts h k stack requested s a typed r n.
      let us = (arity_of context.info t).ends in
      let f : List Value → State → Outcome = λ vs u. Ends (unwound (length stack - length (arity_of context.info t).starts) (length us) vs) u in
      then_follows requested f (run own stack s) (run_wrapped context.info c stack (with_globals requested s)) (λ vs s after. refl)
      (ap (λ (ts : List PrimitiveTypeInfo). then_run (run own stack s) (λ vs u. Ends (unwound (length stack - length ts) (length us) vs) u)) starts ∙
      leaves valid context own us h stack s a typed (run own stack s) refl) (k stack requested s a typed r n);
  before_branch_over = λ context requests own t below c dead u starts pushes pure runs.
      branch_over valid context requests own t c starts pushes runs below dead u pure;
  before_sure_branch = λ context requests own t c one n starts pushes small is runs.
      sure_branch valid context requests own t c starts pushes runs one n small is;
  before_sure_branch_over = λ context requests own t below c one n u starts pushes pure small is runs.
      sure_branch_over valid context requests own t c starts pushes runs one n small is below u pure;
  before_condition = λ context requests own t c condition starts pushes pure runs.
      exit_follows valid context requests own t c condition starts pushes pure runs;
  before_jump = λ context requests own t c condition pure zeros runs. once_follows context requests own t c condition pure zeros runs;
  selected = λ context requests x y c pick t u is_select numeric px py pc stack requested s a typed r n.
      select_after context x y c pick t u is_select numeric px py (pure_alone context primitive.I32 c pc)
      (pure_leaves context primitive.I32 t c x pc px) (pure_leaves context primitive.I32 t c y pc py) stack requested s a typed;
  selected_after = λ context requests x y c pick t u is_select numeric px py alone leaves_x leaves_y stack requested s a typed r n.
      select_after context x y c pick t u is_select numeric px py alone leaves_x leaves_y stack requested s a typed;
}
