-- A body in which instructions were replaced by wrapped code that runs as they do comes to the same end.
use Rattle.std.proofs.Common.{◌≡◌, ℕ, zero, suc, ◌+◌, ◌<◌, ◌≤◌, List, [], ◌++◌, length, refl, sym, ap, ap₂, ◌∙◌, subst, arith, inl, inr}
use Rattle.std.specs.Prelude.{◌≢◌, ◌⊎◌, map}
use Rattle.std.proofs.lemmas.Bool.{cases_eq, cases_lt}
use Rattle.std.proofs.lemmas.List.Elements.{All-nil}
use Rattle.wasm_code.specs.Instruction.{Instruction}
use Rattle.wasm_code.specs.declared.operator.Operator.{Operator}
use Rattle.wasm_code.specs.declared.operator.Operator.TheVariants as op
use Rattle.wasm_types.specs.declared.types.PrimitiveTypeInfo.{PrimitiveTypeInfo}
use Rattle.wasm_execution.specs.Values.{Value, IsValue, types, Context, State, Outcome, Ends, Traps, Stuck}
use Rattle.wasm_execution.specs.Machine.{run}
use Rattle.wasm_execution.specs.Agreement.{with_globals}
use Rattle.wasm_execution.specs.Laws.{Keeps}
use Rattle.wasm_execution.specs.StateLemmas.{with_more}
use Rattle.wasm_execution.specs.TypeLemmas.{run_keeps}
use Rattle.wasm_equivalence.specs.control.Function.{structural, piece, Label, Reached, Done, Control, go_on, pass, visit, visits, lap}
use Rattle.wasm_equivalence.specs.control.Function.{reached_with, FollowsEnd, IsTyped, EndsAlike, At, runs}
use Rattle.wasm_equivalence.specs.control.Standard.{Beyond, standard, by_asked}
use Rattle.wasm_equivalence.specs.control.Laws.{StandardControlIsSound}
use Rattle.wrapped_code.specs.Wrapped.{Wrapped, written, WrappedRunsAs}
use Rattle.wrapped_code.proofs.PlaceLemmas.{past, count}
use Rattle.wrapped_code.proofs.VisitLemmas.{visits_past, visits_split, past_done, visit_not, visit_at, past_skip}
use Rattle.wrapped_code.proofs.MovedLemmas.{moved, moved_piece, moved_labels, moved_reached, moved_before, moved_behind, piece_before, piece_behind}
use Rattle.wrapped_code.proofs.HandlerLemmas.{NoHandler}
use Rattle.wrapped_code.proofs.WrapPieceLemmas.{further, further_is}
use Rattle.wrapped_code.proofs.WrapPieceLemmas as pieces

module _ (context : Context) (sound_law : StandardControlIsSound) (requests : List PrimitiveTypeInfo) (results : List PrimitiveTypeInfo) (beyond : Beyond)
    (front back : List Operator) (own : List Instruction) (c : Wrapped) (runs_as : WrappedRunsAs context requests own c)
    (unhandled : NoHandler (structural (front ++ (map (λ (i : Instruction). op.Instr i) own ++ back)))) where
  -- the bodies before and after, and their controls
  abbrev old : List Operator
  old = front ++ (map (λ (i : Instruction). op.Instr i) own ++ back)

  abbrev new : List Operator
  new = front ++ written c back

  abbrev old_control : Control
  old_control = standard context.info results (structural old) (by_asked (structural old) beyond)

  abbrev new_control : Control
  new_control = standard context.info results (structural new) (by_asked (structural new) beyond)

  abbrev n : ℕ
  n = count front

  abbrev m : ℕ
  m = past c 0

  abbrev re : Reached → Reached
  re = moved_reached n m

  abbrev las : List Label → List Label
  las = moved_labels n m

  -- ---- what is known of the pieces

  abbrev Moves : (f g : List Value → State → Reached) → Type 0
  Moves f g = pieces.Moves context sound_law requests results beyond front back own c runs_as unhandled f g

  past_is : past c n ≡ n + m
  past_is = pieces.past_is context sound_law requests results beyond front back own c runs_as unhandled

  moves_is : (f g x y : List Value → State → Reached) → ((stack : List Value) (s : State) → x stack s ≡ f stack s) →
      ((stack : List Value) (s : State) → y stack s ≡ g stack s) → Moves f g → Moves x y
  moves_is = pieces.moves_is context sound_law requests results beyond front back own c runs_as unhandled

  moves_piece : (k j : ℕ) (labels : List Label) → moved n m k ≡ j → piece new j ≡ piece old k →
      Moves (λ stack s. pass old_control old (At k labels stack s)) (λ stack s. pass new_control new (At j (las labels) stack s))
  moves_piece = pieces.moves_piece context sound_law requests results beyond front back own c runs_as unhandled

  -- ---- visits

  -- unless the first is stuck, it is typed, and the second is it with further globals, by the new numbers
  abbrev pub Along : Reached → Reached → Type 0
  Along p q = p ≢ Done Stuck → IsTyped context p × (more : List Value) × (types more ≡ requests) × (q ≡ re (reached_with more p))

  pub pass_typed : (k : ℕ) (labels : List Label) (stack : List Value) (s : State) → IsTyped context (At k labels stack s) →
      IsTyped context (pass old_control old (At k labels stack s))
  pass_typed k labels stack s t = go (run (piece old k) stack s) (run_keeps context (piece old k) stack s t.1 t.0)
    where
      go : (o : Outcome) → Keeps context o → IsTyped context (go_on (old_control k labels) o)
      go (Ends vs s) h = (pieces.sound context sound_law requests results beyond front back own c runs_as unhandled).keeps k labels vs s h.0 h.1
      go (Traps cause gs r) h = h
      go Stuck h = tt

  -- the new visits that go with the old one of that number
  pub record GoesWith (k : ℕ) (v : Reached → Reached) : Type 0 where
    pub done : (o : Outcome) → v (Done o) ≡ Done o
    pub elsewhere : (j : ℕ) (labels : List Label) (stack : List Value) (s : State) → (j ≡ k → ⊥) →
        v (At (moved_piece n m j) labels stack s) ≡ At (moved_piece n m j) labels stack s
    pub there : (labels : List Label) → Moves (λ stack s. pass old_control old (At k labels stack s))
        (λ stack s. v (At (moved_piece n m k) (las labels) stack s))

  with_visit : (k : ℕ) (v : Reached → Reached) → GoesWith k v → (p q : Reached) → Along p q → Along (visit old_control old k p) (v q)
  with_visit k v w (Done o) q h z =
      let (t, more, e, is) = h z in (t, more, e, ap v is ∙ w.done (with_more more o))
  with_visit k v w (At j labels stack s) q h z = elim (cases_eq j k) [
    | inr d ↦
        let stays = visit_not old_control old k j labels stack s d in
        let (t, more, e, is) = h (λ x. z (stays ∙ x)) in
        subst (λ (x : Reached). IsTyped context x × (more : List Value) × (types more ≡ requests) × (v q ≡ re (reached_with more x))) (sym stays)
        (t, more, e, ap v is ∙ w.elsewhere j (las labels) stack (with_globals more s) d)
    | inl same ↦
        let (t, more, e, is) = h (λ x. absurd (not_done j labels stack s x)) in
        let goes : visit old_control old k (At j labels stack s) ≡ pass old_control old (At k labels stack s) =
        ap (λ i. visit old_control old k (At i labels stack s)) same ∙ visit_at old_control old k labels stack s in
        let (after, u, at) = w.there labels stack more s t.0 t.1 e (λ x. z (goes ∙ x)) in
        subst (λ (x : Reached). IsTyped context x × (more : List Value) × (types more ≡ requests) × (v q ≡ re (reached_with more x))) (sym goes)
        (pass_typed k labels stack s t, after, u, ap v (is ∙ ap (λ i. At (moved_piece n m i) (las labels) stack (with_globals more s)) same) ∙ at)
  ]
    where
      not_done : (j : ℕ) (labels : List Label) (stack : List Value) (s : State) → At j labels stack s ≡ Done Stuck → ⊥
      not_done j labels stack s x = absurd cc

  pub goes_before : (k : ℕ) → k < n → GoesWith k (visit new_control new k)
  goes_before k l = record {
    done = λ o. refl;
    elsewhere = λ j labels stack s d. visit_not new_control new k (moved_piece n m j) labels stack s (λ e. d (apart j e));
    there = λ labels.
        moves_is (λ stack s. pass old_control old (At k labels stack s)) (λ stack s. pass new_control new (At k (las labels) stack s))
        (λ stack s. pass old_control old (At k labels stack s)) (λ stack s. visit new_control new k (At (moved_piece n m k) (las labels) stack s))
        (λ stack s. refl)
        (λ stack s. ap (λ i. visit new_control new k (At i (las labels) stack s)) (piece_before n m k (omega arith)) ∙
        visit_at new_control new k (las labels) stack s)
        (moves_piece k k labels (moved_before n m k l)
        (pieces.pieces_before context sound_law requests results beyond front back own c runs_as unhandled k l));
  }
    where
      apart : (j : ℕ) → moved_piece n m j ≡ k → j ≡ k
      apart j e = elim (cases_lt n j) [
        | inl x ↦ let y = piece_behind n m j x in omega arith
        | inr x ↦ sym (piece_before n m j x) ∙ e
      ]

  pub goes_here : GoesWith n (λ q. visits_past new_control new c n (visit new_control new n q))
  goes_here = record {
    done = λ o. past_done new_control new c n o;
    elsewhere = λ j labels stack s d.
        ap (visits_past new_control new c n) (visit_not new_control new n (moved_piece n m j) labels stack s (λ e. d (apart j e))) ∙
        past_skip new_control new c n (moved_piece n m j) labels stack s (outside j);
    there = λ labels.
        moves_is (λ stack s. pass old_control old (At n labels stack s))
        (λ stack s. visits_past new_control new c n (pass new_control new (At n (las labels) stack s)))
        (λ stack s. pass old_control old (At n labels stack s))
        (λ stack s. visits_past new_control new c n (visit new_control new n (At (moved_piece n m n) (las labels) stack s)))
        (λ stack s. refl)
        (λ stack s. ap (visits_past new_control new c n)
        (ap (λ i. visit new_control new n (At i (las labels) stack s)) (piece_before n m n (omega arith)) ∙
        visit_at new_control new n (las labels) stack s))
        (pieces.moves_here context sound_law requests results beyond front back own c runs_as unhandled labels);
  }
    where
      apart : (j : ℕ) → moved_piece n m j ≡ n → j ≡ n
      apart j e = elim (cases_lt n j) [
        | inl x ↦ let y = piece_behind n m j x in omega arith
        | inr x ↦ sym (piece_before n m j x) ∙ e
      ]

      outside : (j : ℕ) → (moved_piece n m j ≤ n) ⊎ (past c n < moved_piece n m j)
      outside j = elim (cases_lt n j) [
        | inl x ↦ inr (let y = piece_behind n m j x in let z = past_is in omega arith)
        | inr x ↦ inl (let y = piece_before n m j x in omega arith)
      ]

  pub goes_behind : (k j : ℕ) → n < k → j ≡ k + m → GoesWith k (visit new_control new j)
  goes_behind k j l f = record {
    done = λ o. refl;
    elsewhere = λ i labels stack s d. visit_not new_control new j (moved_piece n m i) labels stack s (λ e. d (apart i e));
    there = λ labels.
        moves_is (λ stack s. pass old_control old (At k labels stack s)) (λ stack s. pass new_control new (At j (las labels) stack s))
        (λ stack s. pass old_control old (At k labels stack s)) (λ stack s. visit new_control new j (At (moved_piece n m k) (las labels) stack s))
        (λ stack s. refl)
        (λ stack s. ap (λ i. visit new_control new j (At i (las labels) stack s)) (piece_behind n m k l ∙ sym f) ∙
        visit_at new_control new j (las labels) stack s)
        (moves_piece k j labels (moved_behind n m k (omega arith) ∙ sym f)
        (ap (piece new) f ∙ pieces.pieces_behind context sound_law requests results beyond front back own c runs_as unhandled k l));
  }
    where
      apart : (i : ℕ) → moved_piece n m i ≡ j → i ≡ k
      apart i e = elim (cases_lt n i) [
        | inl x ↦ let y = piece_behind n m i x in omega arith
        | inr x ↦ let y = piece_before n m i x in omega arith
      ]

  -- ---- laps

  upto : (k : ℕ) → k < n → (p q : Reached) → Along p q → Along (visits old_control old k p) (visits new_control new k q)
  upto zero l p q h = with_visit 0 (visit new_control new 0) (goes_before 0 l) p q h
  upto (suc k) l p q h =
      with_visit (suc k) (visit new_control new (suc k)) (goes_before (suc k) l) (visits old_control old k p) (visits new_control new k q)
      (upto k (omega arith) p q h)

  reaching : (k : ℕ) (v : Reached → Reached) → k ≤ n → GoesWith k (λ q. v (visit new_control new k q)) → (p q : Reached) → Along p q →
      Along (visits old_control old k p) (v (visits new_control new k q))
  reaching zero v l w p q h = with_visit 0 (λ q. v (visit new_control new 0 q)) w p q h
  reaching (suc k) v l w p q h =
      with_visit (suc k) (λ q. v (visit new_control new (suc k) q)) w (visits old_control old k p) (visits new_control new k q) (upto k (omega arith) p q h)

  beyond_it : (l : ℕ) (p q : Reached) → Along p q → Along (visits old_control old (further n l) p) (visits new_control new (further (past c n) l) q)
  beyond_it zero p q h =
      subst (Along (visits old_control old n p)) (sym (visits_split new_control new c n q))
      (reaching n (visits_past new_control new c n) (omega arith) goes_here p q h)
  beyond_it (suc l) p q h =
      let a = further_is n l in let b = further_is (past c n) l in let e = past_is in
      with_visit (suc (further n l)) (visit new_control new (suc (further (past c n) l)))
      (goes_behind (suc (further n l)) (suc (further (past c n) l)) (omega arith) (omega arith))
      (visits old_control old (further n l) p) (visits new_control new (further (past c n) l) q) (beyond_it l p q h)

  lap_along : (p q : Reached) → Along p q → Along (lap old_control old p) (lap new_control new q)
  lap_along p q h =
      subst (λ (x : ℕ × ℕ). Along (visits old_control old x.0 p) (visits new_control new x.1 q))
      (ap₂ (λ (x y : ℕ). (x, y)) (sym (pieces.old_length context sound_law requests results beyond front back own c runs_as unhandled))
      (sym (pieces.new_length context sound_law requests results beyond front back own c runs_as unhandled))) (beyond_it (length (structural back)) p q h)

  pub runs_along : (fuel : ℕ) (p q : Reached) → Along p q → Along (runs old_control old fuel p) (runs new_control new fuel q)
  runs_along zero p q h = h
  runs_along (suc fuel) p q h = runs_along fuel (lap old_control old p) (lap new_control new q) (lap_along p q h)

  pub wrapped_alike : EndsAlike context requests old_control new_control old new
  wrapped_alike fuel requested s typed e z =
      let start : moved_piece n m 0 ≡ 0 = piece_before n m 0 (omega arith) in
      let (t, after, u, is) = runs_along fuel (At 0 [] [] s) (At 0 [] [] (with_globals requested s))
      (λ x. ((All-nil IsValue, typed), requested, e, ap (λ i. At i [] [] (with_globals requested s)) (sym start))) z in
      subst (FollowsEnd requested (runs old_control old fuel (At 0 [] [] s))) (sym is)
      (go after (u ∙ sym e) (runs old_control old fuel (At 0 [] [] s)))
    where
      go : (after : List Value) → types after ≡ types requested → (p : Reached) → FollowsEnd requested p (re (reached_with after p))
      go after u (At k labels stack s) = (after, u, refl)
      go after u (Done o) = (after, u, refl)
