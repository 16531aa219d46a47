-- A body in which wrapped code was replaced by instructions that push what it pushes, and as which it runs, comes to the same end, also where that is
-- stuck.
use Rattle.std.proofs.Common.{◌≡◌, ℕ, zero, suc, ◌+◌, ◌<◌, ◌≤◌, List, [], ◌++◌, length, refl, sym, ap, ap₂, ◌∙◌, subst, arith, append-nil, inl, inr}
use Rattle.std.specs.Prelude.{◌≢◌, map}
use Rattle.std.specs.List.{All}
use Rattle.std.proofs.lemmas.Bool.{cases_eq}
use Rattle.std.proofs.lemmas.List.Elements.{All-nil}
use Rattle.wasm_code.specs.Instruction.{Instruction}
use Rattle.wasm_code.specs.declared.operator.Operator.{Operator}
use Rattle.wasm_code.specs.declared.operator.Operator.TheVariants as op
use Rattle.wasm_types.specs.Module.{Module}
use Rattle.wasm_types.specs.declared.types.PrimitiveTypeInfo.{PrimitiveTypeInfo}
use Rattle.wasm_execution.specs.Values.{Value, IsValue, Context, State, HasTypes, Outcome, Ends, Traps, Stuck}
use Rattle.wasm_execution.specs.Machine.{run}
use Rattle.wasm_execution.specs.Agreement.{with_globals}
use Rattle.wasm_execution.specs.Laws.{Keeps}
use Rattle.wasm_execution.specs.StateLemmas.{none_of, with_more}
use Rattle.wasm_execution.specs.TypeLemmas.{run_keeps}
use Rattle.wasm_equivalence.specs.control.Function.{structural, piece, Label, Reached, Done, Control, go_on, pass, visit, visits, lap}
use Rattle.wasm_equivalence.specs.control.Function.{FollowsEnd, IsTyped, EndsAlike, At, runs}
use Rattle.wasm_equivalence.specs.control.Standard.{Beyond, standard, by_asked}
use Rattle.wasm_equivalence.specs.control.Laws.{StandardControlIsSound}
use Rattle.wasm_equivalence.specs.validation.Sound.{ValidCodeRuns}
use Rattle.wasm_equivalence.specs.validation.StaysValid.{Pushes}
use Rattle.wrapped_code.specs.Wrapped.{Wrapped, written, run_wrapped, WrappedRunsAs}
use Rattle.wrapped_code.proofs.PlaceLemmas.{past, count}
use Rattle.wrapped_code.proofs.VisitLemmas.{visits_past, visits_split, visit_not, visit_at}
use Rattle.wrapped_code.proofs.RunLemmas.{through}
use Rattle.wrapped_code.proofs.MovedLemmas.{moved, moved_piece, moved_labels, moved_reached, moved_before, moved_behind, piece_before, piece_behind}
use Rattle.wrapped_code.proofs.HandlerLemmas.{NoHandler}
use Rattle.wrapped_code.proofs.OverLemmas.{never_stuck}
use Rattle.wrapped_code.proofs.WrapPieceLemmas as pieces
use Rattle.wrapped_code.proofs.WrapLemmas as wrap

-- ---- no further globals

pub no_globals : (s : State) → with_globals [] s ≡ s
no_globals s = ap (λ (gs : List Value). record s { globals = gs }) (append-nil s.globals)

pub none_more : (o : Outcome) → with_more [] o ≡ o
none_more (Ends vs s) = ap (λ (x : State). Ends vs x) (no_globals s)
none_more (Traps cause gs r) = refl
none_more Stuck = refl

module _ (context : Context) (sound_law : StandardControlIsSound) (valid : ValidCodeRuns) (results : List PrimitiveTypeInfo) (beyond : Beyond)
    (front back : List Operator) (own : List Instruction) (c : Wrapped) (runs_as : WrappedRunsAs context [] own c) (us : List PrimitiveTypeInfo)
    (pushes : Pushes context own [] us)
    (unhandled : NoHandler (structural (front ++ (map (λ (i : Instruction). op.Instr i) own ++ back)))) where
  -- the body with the instructions
  abbrev plain_body : List Operator
  plain_body = front ++ (map (λ (i : Instruction). op.Instr i) own ++ back)

  -- the body with the wrapped code
  abbrev wrapped_body : List Operator
  wrapped_body = front ++ written c back

  abbrev info : Module
  info = context.info

  abbrev plain_control : Control
  plain_control = standard info results (structural plain_body) (by_asked (structural plain_body) beyond)

  abbrev wrapped_control : Control
  wrapped_control = standard info results (structural wrapped_body) (by_asked (structural wrapped_body) beyond)

  abbrev n : ℕ
  n = count front

  abbrev m : ℕ
  m = past c 0

  abbrev re : Reached → Reached
  re = moved_reached n m

  abbrev las : List Label → List Label
  las = moved_labels n m

  -- ---- one after another

  -- from typed states the second goes on as the first by the new numbers, and is stuck where that is
  abbrev Same : (f g : List Value → State → Reached) → Type 0
  Same f g = (stack : List Value) (s : State) → All IsValue stack → HasTypes context s → g stack s ≡ re (f stack s)

  same_is : (f g x y : List Value → State → Reached) → ((stack : List Value) (s : State) → x stack s ≡ f stack s) →
      ((stack : List Value) (s : State) → y stack s ≡ g stack s) → Same f g → Same x y
  same_is f g x y e d h stack s a t = d stack s ∙ (h stack s a t ∙ ap re (sym (e stack s)))

  same_code : (code : List Instruction) (f g : List Value → State → Reached) → Same f g →
      Same (λ stack s. go_on f (run code stack s)) (λ stack s. go_on g (run code stack s))
  same_code code f g h stack s a t = go (run code stack s) (run_keeps context code stack s t a)
    where
      go : (o : Outcome) → Keeps context o → go_on g o ≡ re (go_on f o)
      go (Ends vs u) k = h vs u k.0 k.1
      go (Traps cause gs r) k = refl
      go Stuck k = refl

  same_control : (k : ℕ) (labels : List Label) → Same (plain_control k labels) (wrapped_control (moved n m k) (las labels))
  same_control k labels stack s a t =
      pieces.controls_moved context sound_law [] results beyond front back own c runs_as unhandled k labels stack s

  same_piece : (k j : ℕ) (labels : List Label) → moved n m k ≡ j → piece wrapped_body j ≡ piece plain_body k →
      Same (λ stack s. pass plain_control plain_body (At k labels stack s)) (λ stack s. pass wrapped_control wrapped_body (At j (las labels) stack s))
  same_piece k j labels e same =
      same_is (λ stack s. go_on (plain_control k labels) (run (piece plain_body k) stack s))
      (λ stack s. go_on (wrapped_control (moved n m k) (las labels)) (run (piece plain_body k) stack s))
      (λ stack s. pass plain_control plain_body (At k labels stack s)) (λ stack s. pass wrapped_control wrapped_body (At j (las labels) stack s))
      (λ stack s. refl)
      (λ stack s. ap₂ (λ (i : ℕ) (code : List Instruction). go_on (wrapped_control i (las labels)) (run code stack s)) (sym e) same)
      (same_code (piece plain_body k) (plain_control k labels) (wrapped_control (moved n m k) (las labels)) (same_control k labels))

  -- ---- the piece in which the code stands

  abbrev first : List Instruction
  first = piece front n

  abbrev last : List Instruction
  last = piece back 0

  -- the wrapped code does what the instructions do
  runs_alike : (stack : List Value) (s : State) → All IsValue stack → HasTypes context s → run_wrapped info c stack s ≡ run own stack s
  runs_alike stack s a t =
      let (after, d, at) = runs_as stack [] s a t refl (never_stuck valid context own us pushes stack s t) in
      ap (run_wrapped info c stack) (sym (no_globals s)) ∙
      (at ∙ (ap (λ (more : List Value). with_more more (run own stack s)) (none_of after d) ∙ none_more (run own stack s)))

  abbrev after_own : List Label → List Value → State → Reached
  after_own labels stack s = go_on (λ stack s. go_on (plain_control n labels) (run last stack s)) (run own stack s)

  abbrev through_code : List Label → List Value → State → Reached
  through_code labels stack s =
      visits_past wrapped_control wrapped_body c n (go_on (wrapped_control n labels) (run (piece (written c back) 0) stack s))

  same_through : (labels : List Label) → Same (after_own labels) (through_code (las labels))
  same_through labels stack s a t =
      let free : run own stack s ≢ Stuck = never_stuck valid context own us pushes stack s t in
      let alike = runs_alike stack s a t in
      let there : past c n ≡ moved n m n =
      pieces.past_is context sound_law [] results beyond front back own c runs_as unhandled ∙ sym (moved_behind n m n (omega arith)) in
      let f : List Value → State → Reached = λ stack s. go_on (plain_control n labels) (run last stack s) in
      let g : List Value → State → Reached = λ stack s. go_on (wrapped_control (moved n m n) (las labels)) (run last stack s) in
      through info results (by_asked (structural wrapped_body) beyond) wrapped_body c n back (las labels) stack s
      (pieces.new_here context sound_law [] results beyond front back own c runs_as unhandled) (λ e. free (sym alike ∙ e)) ∙
      (ap (λ i. go_on (λ stack s. go_on (wrapped_control i (las labels)) (run last stack s)) (run_wrapped info c stack s)) there ∙
      (ap (go_on g) alike ∙
      same_code own f g (same_code last (plain_control n labels) (wrapped_control (moved n m n) (las labels)) (same_control n labels)) stack s a t))

  same_here : (labels : List Label) →
      Same (λ stack s. pass plain_control plain_body (At n labels stack s))
      (λ stack s. visits_past wrapped_control wrapped_body c n (pass wrapped_control wrapped_body (At n (las labels) stack s)))
  same_here labels =
      same_is (λ stack s. go_on (after_own labels) (run first stack s)) (λ stack s. go_on (through_code (las labels)) (run first stack s))
      (λ stack s. pass plain_control plain_body (At n labels stack s))
      (λ stack s. visits_past wrapped_control wrapped_body c n (pass wrapped_control wrapped_body (At n (las labels) stack s)))
      (pieces.old_here context sound_law [] results beyond front back own c runs_as unhandled labels)
      (pieces.new_goes context sound_law [] results beyond front back own c runs_as unhandled (las labels))
      (same_code first (after_own labels) (through_code (las labels)) (same_through labels))

  -- ---- visits

  -- the first is typed, and the second is it by the new numbers
  abbrev Along : Reached → Reached → Type 0
  Along p q = IsTyped context p × (q ≡ re p)

  -- the visits of the wrapped body that go with the plain one of that number
  record GoesSame (k : ℕ) (v : Reached → Reached) : Type 0 where
    done : (o : Outcome) → v (Done o) ≡ Done o
    elsewhere : (j : ℕ) (labels : List Label) (stack : List Value) (s : State) → (j ≡ k → ⊥) →
        v (At (moved_piece n m j) labels stack s) ≡ At (moved_piece n m j) labels stack s
    there : (labels : List Label) → Same (λ stack s. pass plain_control plain_body (At k labels stack s))
        (λ stack s. v (At (moved_piece n m k) (las labels) stack s))

  with_visit : (k : ℕ) (v : Reached → Reached) → GoesSame k v → (p q : Reached) → Along p q → Along (visit plain_control plain_body k p) (v q)
  with_visit k v w (Done o) q h = (h.0, ap v h.1 ∙ w.done o)
  with_visit k v w (At j labels stack s) q h = elim (cases_eq j k) [
    | inr d ↦ subst (λ (x : Reached). IsTyped context x × (v q ≡ re x)) (sym (visit_not plain_control plain_body k j labels stack s d))
        (h.0, ap v h.1 ∙ w.elsewhere j (las labels) stack s d)
    | inl same ↦
        let goes : visit plain_control plain_body k (At j labels stack s) ≡ pass plain_control plain_body (At k labels stack s) =
        ap (λ i. visit plain_control plain_body k (At i labels stack s)) same ∙ visit_at plain_control plain_body k labels stack s in
        subst (λ (x : Reached). IsTyped context x × (v q ≡ re x)) (sym goes) (
          wrap.pass_typed context sound_law [] results beyond front back own c runs_as unhandled k labels stack s h.0,
          ap v (h.1 ∙ ap (λ i. At (moved_piece n m i) (las labels) stack s) same) ∙ w.there labels stack s h.0.0 h.0.1,
        )
  ]

  goes_before : (k : ℕ) → k < n → GoesSame k (visit wrapped_control wrapped_body k)
  goes_before k l =
      let w = wrap.goes_before context sound_law [] results beyond front back own c runs_as unhandled k l in
      record {
        done = w.done;
        elsewhere = w.elsewhere;
        there = λ labels.
            same_is (λ stack s. pass plain_control plain_body (At k labels stack s))
            (λ stack s. pass wrapped_control wrapped_body (At k (las labels) stack s))
            (λ stack s. pass plain_control plain_body (At k labels stack s))
            (λ stack s. visit wrapped_control wrapped_body k (At (moved_piece n m k) (las labels) stack s))
            (λ stack s. refl)
            (λ stack s. ap (λ i. visit wrapped_control wrapped_body k (At i (las labels) stack s)) (piece_before n m k (omega arith)) ∙
            visit_at wrapped_control wrapped_body k (las labels) stack s)
            (same_piece k k labels (moved_before n m k l)
            (pieces.pieces_before context sound_law [] results beyond front back own c runs_as unhandled k l));
      }

  goes_here : GoesSame n (λ q. visits_past wrapped_control wrapped_body c n (visit wrapped_control wrapped_body n q))
  goes_here =
      let w = wrap.goes_here context sound_law [] results beyond front back own c runs_as unhandled in
      record {
        done = w.done;
        elsewhere = w.elsewhere;
        there = λ labels.
            same_is (λ stack s. pass plain_control plain_body (At n labels stack s))
            (λ stack s. visits_past wrapped_control wrapped_body c n (pass wrapped_control wrapped_body (At n (las labels) stack s)))
            (λ stack s. pass plain_control plain_body (At n labels stack s))
            (λ stack s. visits_past wrapped_control wrapped_body c n
            (visit wrapped_control wrapped_body n (At (moved_piece n m n) (las labels) stack s)))
            (λ stack s. refl)
            (λ stack s. ap (visits_past wrapped_control wrapped_body c n)
            (ap (λ i. visit wrapped_control wrapped_body n (At i (las labels) stack s)) (piece_before n m n (omega arith)) ∙
            visit_at wrapped_control wrapped_body n (las labels) stack s))
            (same_here labels);
      }

  goes_behind : (k j : ℕ) → n < k → j ≡ k + m → GoesSame k (visit wrapped_control wrapped_body j)
  goes_behind k j l f =
      let w = wrap.goes_behind context sound_law [] results beyond front back own c runs_as unhandled k j l f in
      record {
        done = w.done;
        elsewhere = w.elsewhere;
        there = λ labels.
            same_is (λ stack s. pass plain_control plain_body (At k labels stack s))
            (λ stack s. pass wrapped_control wrapped_body (At j (las labels) stack s))
            (λ stack s. pass plain_control plain_body (At k labels stack s))
            (λ stack s. visit wrapped_control wrapped_body j (At (moved_piece n m k) (las labels) stack s))
            (λ stack s. refl)
            (λ stack s. ap (λ i. visit wrapped_control wrapped_body j (At i (las labels) stack s)) (piece_behind n m k l ∙ sym f) ∙
            visit_at wrapped_control wrapped_body j (las labels) stack s)
            (same_piece k j labels (moved_behind n m k (omega arith) ∙ sym f)
            (ap (piece wrapped_body) f ∙ pieces.pieces_behind context sound_law [] results beyond front back own c runs_as unhandled k l));
      }

  -- ---- laps

  upto : (k : ℕ) → k < n → (p q : Reached) → Along p q → Along (visits plain_control plain_body k p) (visits wrapped_control wrapped_body k q)
  upto zero l p q h = with_visit 0 (visit wrapped_control wrapped_body 0) (goes_before 0 l) p q h
  upto (suc k) l p q h =
      with_visit (suc k) (visit wrapped_control wrapped_body (suc k)) (goes_before (suc k) l) (visits plain_control plain_body k p)
      (visits wrapped_control wrapped_body k q) (upto k (omega arith) p q h)

  reaching : (k : ℕ) (v : Reached → Reached) → k ≤ n → GoesSame k (λ q. v (visit wrapped_control wrapped_body k q)) → (p q : Reached) → Along p q →
      Along (visits plain_control plain_body k p) (v (visits wrapped_control wrapped_body k q))
  reaching zero v l w p q h = with_visit 0 (λ q. v (visit wrapped_control wrapped_body 0 q)) w p q h
  reaching (suc k) v l w p q h =
      with_visit (suc k) (λ q. v (visit wrapped_control wrapped_body (suc k) q)) w (visits plain_control plain_body k p)
      (visits wrapped_control wrapped_body k q) (upto k (omega arith) p q h)

  beyond_it : (l : ℕ) (p q : Reached) → Along p q →
      Along (visits plain_control plain_body (pieces.further n l) p) (visits wrapped_control wrapped_body (pieces.further (past c n) l) q)
  beyond_it zero p q h =
      subst (Along (visits plain_control plain_body n p)) (sym (visits_split wrapped_control wrapped_body c n q))
      (reaching n (visits_past wrapped_control wrapped_body c n) (omega arith) goes_here p q h)
  beyond_it (suc l) p q h =
      let a = pieces.further_is n l in let b = pieces.further_is (past c n) l in
      let e = pieces.past_is context sound_law [] results beyond front back own c runs_as unhandled in
      with_visit (suc (pieces.further n l)) (visit wrapped_control wrapped_body (suc (pieces.further (past c n) l)))
      (goes_behind (suc (pieces.further n l)) (suc (pieces.further (past c n) l)) (omega arith) (omega arith))
      (visits plain_control plain_body (pieces.further n l) p) (visits wrapped_control wrapped_body (pieces.further (past c n) l) q) (beyond_it l p q h)

  lap_along : (p q : Reached) → Along p q → Along (lap plain_control plain_body p) (lap wrapped_control wrapped_body q)
  lap_along p q h =
      subst (λ (x : ℕ × ℕ). Along (visits plain_control plain_body x.0 p) (visits wrapped_control wrapped_body x.1 q))
      (ap₂ (λ (x y : ℕ). (x, y)) (sym (pieces.old_length context sound_law [] results beyond front back own c runs_as unhandled))
      (sym (pieces.new_length context sound_law [] results beyond front back own c runs_as unhandled)))
      (beyond_it (length (structural back)) p q h)

  runs_along : (fuel : ℕ) (p q : Reached) → Along p q → Along (runs plain_control plain_body fuel p) (runs wrapped_control wrapped_body fuel q)
  runs_along zero p q h = h
  runs_along (suc fuel) p q h = runs_along fuel (lap plain_control plain_body p) (lap wrapped_control wrapped_body q) (lap_along p q h)

  runs_same : (fuel : ℕ) (s : State) → HasTypes context s →
      runs wrapped_control wrapped_body fuel (At 0 [] [] s) ≡ re (runs plain_control plain_body fuel (At 0 [] [] s))
  runs_same fuel s typed =
      let start : moved_piece n m 0 ≡ 0 = piece_before n m 0 (omega arith) in
      (runs_along fuel (At 0 [] [] s) (At 0 [] [] s)
      ((All-nil IsValue, typed), ap (λ i. At i [] [] s) (sym start))).1

  pub unwrapped_alike : EndsAlike context [] wrapped_control plain_control wrapped_body plain_body
  unwrapped_alike fuel requested s typed e z =
      let start : State → Reached = λ s. runs plain_control plain_body fuel (At 0 [] [] s) in
      subst (λ (more : List Value). FollowsEnd more (runs wrapped_control wrapped_body fuel (At 0 [] [] s)) (start (with_globals more s)))
      (sym (none_of requested e))
      (subst (λ (x : State). FollowsEnd [] (runs wrapped_control wrapped_body fuel (At 0 [] [] s)) (start x)) (sym (no_globals s))
      (subst (λ (x : Reached). FollowsEnd [] x (start s)) (sym (runs_same fuel s typed)) (go (start s))))
    where
      go : (p : Reached) → FollowsEnd [] (re p) p
      go (At k labels stack s) = ([], refl, sym (no_globals s))
      go (Done o) = ([], refl, sym (none_more o))
