-- A body in which instructions were replaced by wrapped code: where its pieces stand, what its control does, and that each piece goes on as in the old one.
use Rattle.std.proofs.Common.{◌≡◌, ℕ, zero, suc, ◌-◌, ◌+◌, ◌<◌, List, [], ◌++◌, length, refl, sym, ap, ap₂, ◌∙◌, subst, arith}
use Rattle.std.specs.Prelude.{◌≢◌, map}
use Rattle.std.specs.List.{All}
use Rattle.std.proofs.lemmas.List.{length-append}
use Rattle.wasm_code.specs.Instruction.{Instruction}
use Rattle.wasm_code.specs.declared.operator.Operator.{Operator}
use Rattle.wasm_code.specs.declared.operator.Operator.TheVariants as op
use Rattle.wasm_types.specs.Module.{Module}
use Rattle.wasm_types.specs.declared.types.PrimitiveTypeInfo.{PrimitiveTypeInfo}
use Rattle.wasm_execution.specs.Values.{Value, IsValue, types, Context, State, HasTypes, Outcome, Ends, Traps, Stuck}
use Rattle.wasm_execution.specs.Machine.{run}
use Rattle.wasm_execution.specs.Agreement.{with_globals}
use Rattle.wasm_execution.specs.Laws.{Keeps}
use Rattle.wasm_execution.specs.OutcomeLemmas.{run_append}
use Rattle.wasm_execution.specs.StateLemmas.{with_more, Follows}
use Rattle.wasm_execution.specs.SameLemmas.{run_follows}
use Rattle.wasm_execution.specs.TypeLemmas.{run_keeps}
use Rattle.wasm_equivalence.specs.control.Function.{structural, piece, Label, Reached, Done, Control, go_on, pass}
use Rattle.wasm_equivalence.specs.control.Function.{reached_with, IsSoundControl, At}
use Rattle.wasm_equivalence.specs.control.Standard.{Beyond, standard, by_asked}
use Rattle.wasm_equivalence.specs.control.Blocks.{closing, other_part}
use Rattle.wasm_equivalence.specs.control.Laws.{StandardControlIsSound}
use Rattle.wrapped_code.specs.Wrapped.{Wrapped, written, run_wrapped, WrappedRunsAs}
use Rattle.wrapped_code.proofs.PlaceLemmas.{bones, past, coded_structure, written_structure, bones_append, past_adds, past_counts}
use Rattle.wrapped_code.proofs.PlaceLemmas.{closing_past, other_past, IsBehind, coded_behind, written_behind, count, front_behind}
use Rattle.wrapped_code.proofs.PlaceLemmas.{front_structure, front_piece, last_piece}
use Rattle.wrapped_code.proofs.VisitLemmas.{coded_first, go_then, visits_past, past_done}
use Rattle.wrapped_code.proofs.RunLemmas.{through}
use Rattle.wrapped_code.proofs.MovedLemmas.{moved, moved_labels, moved_reached, moved_behind}
use Rattle.wrapped_code.proofs.HandlerLemmas.{NoHandler}
use Rattle.wrapped_code.proofs.TableLemmas.{no_tables}
use Rattle.wrapped_code.proofs.BetweenLemmas.{control_between}

-- that many more
abbrev pub further : ℕ → ℕ → ℕ
further i zero = i
further i (suc l) = suc (further i l)

pub further_is : (i l : ℕ) → further i l ≡ i + l
further_is i zero = omega arith
further_is i (suc l) = let e = further_is i l in omega arith

module _ (context : Context) (sound_law : StandardControlIsSound) (requests : List PrimitiveTypeInfo) (results : List PrimitiveTypeInfo) (beyond : Beyond)
    (front back : List Operator) (own : List Instruction) (c : Wrapped) (runs_as : WrappedRunsAs context requests own c)
    (unhandled : NoHandler (structural (front ++ (map (λ (i : Instruction). op.Instr i) own ++ back)))) where
  abbrev pub old : List Operator
  old = front ++ (map (λ (i : Instruction). op.Instr i) own ++ back)

  abbrev pub new : List Operator
  new = front ++ written c back

  abbrev info : Module
  info = context.info

  abbrev pub old_control : Control
  old_control = standard info results (structural old) (by_asked (structural old) beyond)

  abbrev pub new_control : Control
  new_control = standard info results (structural new) (by_asked (structural new) beyond)

  abbrev pub n : ℕ
  n = count front

  abbrev pub m : ℕ
  m = past c 0

  abbrev xs : List Operator
  xs = structural front

  abbrev middle : List Operator
  middle = bones c []

  abbrev ys : List Operator
  ys = structural back

  abbrev re : Reached → Reached
  re = moved_reached n m

  abbrev las : List Label → List Label
  las = moved_labels n m

  -- ---- places

  old_is : structural old ≡ xs ++ ys
  old_is = front_structure front (map (λ (i : Instruction). op.Instr i) own ++ back) ∙ ap (λ os. xs ++ os) (coded_structure own back)

  new_is : structural new ≡ xs ++ (middle ++ ys)
  new_is = front_structure front (written c back) ∙ ap (λ os. xs ++ os) (written_structure c back ∙ bones_append c [] ys)

  middle_count : length middle ≡ m
  middle_count = past_counts c []

  pub old_behind : IsBehind old n back
  old_behind = coded_behind old n own back (front_behind front (map (λ (i : Instruction). op.Instr i) own ++ back))

  pub new_here : IsBehind new n (written c back)
  new_here = front_behind front (written c back)

  new_behind : IsBehind new (past c n) back
  new_behind = written_behind new c n back new_here

  pub past_is : past c n ≡ n + m
  past_is = let e = past_adds c n in omega arith

  pub pieces_before : (k : ℕ) → k < n → piece new k ≡ piece old k
  pieces_before k l = front_piece front (written c back) k l ∙ sym (front_piece front (map (λ (i : Instruction). op.Instr i) own ++ back) k l)

  pub pieces_behind : (k : ℕ) → n < k → piece new (k + m) ≡ piece old k
  pieces_behind zero l = absurd (omega arith)
  pieces_behind (suc k) l =
      let p = past_is in
      ap (piece new) (let x : suc k + m ≡ suc (k + m) = omega arith in x) ∙
      (new_behind.pieces (k + m) (k - n) (omega arith) ∙ sym (old_behind.pieces k (k - n) (omega arith)))

  pub old_length : length (structural old) ≡ further n (length ys)
  old_length = ap length old_is ∙ (length-append xs ys ∙ sym (further_is n (length ys)))

  pub new_length : length (structural new) ≡ further (past c n) (length ys)
  new_length =
      let a = length-append xs (middle ++ ys) in let b = length-append middle ys in
      let e = middle_count in let d = further_is (past c n) (length ys) in let f = past_is in
      ap length new_is ∙ omega arith

  -- ---- what the controls do

  closed : (d k j : ℕ) → j ≡ k + m → closing d k (middle ++ ys) ≡ closing d j ys
  closed d k j e =
      let p = past_adds c k in
      ap (closing d k) (sym (bones_append c [] ys)) ∙ (closing_past c d k ys ∙ ap (λ i. closing d i ys) (let x : past c k ≡ j = omega arith in x))

  parted : (d k j : ℕ) → j ≡ k + m → other_part d k (middle ++ ys) ≡ other_part d j ys
  parted d k j e =
      let p = past_adds c k in
      ap (other_part d k) (sym (bones_append c [] ys)) ∙ (other_past c d k ys ∙ ap (λ i. other_part d i ys) (let x : past c k ≡ j = omega arith in x))

  pub controls_moved : (k : ℕ) (labels : List Label) (stack : List Value) (s : State) →
      new_control (moved n m k) (las labels) stack s ≡ re (old_control k labels stack s)
  controls_moved k labels stack s =
      ap (λ os. standard info results os (by_asked os beyond) (moved n m k) (las labels) stack s) new_is ∙
      (control_between xs middle ys n m refl middle_count (no_tables c []) closed parted (subst NoHandler old_is unhandled) info results beyond k labels
      stack s ∙
      ap (λ os. re (standard info results os (by_asked os beyond) k labels stack s)) (sym old_is))

  -- ---- one after another

  -- the second goes on as the first, with further globals, by the new numbers
  abbrev pub Moves : (f g : List Value → State → Reached) → Type 0
  Moves f g = (stack more : List Value) (s : State) → All IsValue stack → HasTypes context s → types more ≡ requests → f stack s ≢ Done Stuck →
      (after : List Value) × (types after ≡ requests) × (g stack (with_globals more s) ≡ re (reached_with after (f stack s)))

  pub moves_is : (f g x y : List Value → State → Reached) → ((stack : List Value) (s : State) → x stack s ≡ f stack s) →
      ((stack : List Value) (s : State) → y stack s ≡ g stack s) → Moves f g → Moves x y
  moves_is f g x y e d h stack more s a t r q =
      let (after, u, is) = h stack more s a t r (λ z. q (e stack s ∙ z)) in
      (after, u, d stack (with_globals more s) ∙ (is ∙ ap (λ z. re (reached_with after z)) (sym (e stack s))))

  pub sound : IsSoundControl context old_control
  sound = sound_law.sound context results (structural old) (by_asked (structural old) beyond)

  moves_control : (k : ℕ) (labels : List Label) → Moves (old_control k labels) (new_control (moved n m k) (las labels))
  moves_control k labels stack more s a t r q =
      let f = sound.follows k labels stack more s a t q in
      (f.0, f.1 ∙ r, controls_moved k labels stack (with_globals more s) ∙ ap re f.2)

  abbrev Runs : Type 0
  Runs = List Value → State → Outcome

  moves_then : (o p : Runs) (f g : List Value → State → Reached) →
      ((stack : List Value) (s : State) → HasTypes context s → All IsValue stack → Keeps context (o stack s)) →
      ((stack requested : List Value) (s : State) → All IsValue stack → HasTypes context s → types requested ≡ requests → o stack s ≢ Stuck →
      Follows requested (o stack s) (p stack (with_globals requested s))) → Moves f g →
      Moves (λ stack s. go_on f (o stack s)) (λ stack s. go_on g (p stack s))
  moves_then o p f g keeps follows h stack more s a t r q =
      let (after, u, is) = follows stack more s a t r (λ z. q (ap (go_on f) z)) in
      let (last, v, at) = go after (u ∙ r) (o stack s) (keeps stack s t a) q in
      (last, v, ap (go_on g) is ∙ at)
    where
      go : (more : List Value) → types more ≡ requests → (x : Outcome) → Keeps context x → go_on f x ≢ Done Stuck →
          (after : List Value) × (types after ≡ requests) × (go_on g (with_more more x) ≡ re (reached_with after (go_on f x)))
      go more r (Ends vs t) k q = h vs more t k.0 k.1 r q
      go more r (Traps cause gs rest) k q = (more, r, refl)
      go more r Stuck k q = absurd (q refl)

  moves_code : (code : List Instruction) (f g : List Value → State → Reached) → Moves f g →
      Moves (λ stack s. go_on f (run code stack s)) (λ stack s. go_on g (run code stack s))
  moves_code code f g h =
      moves_then (run code) (run code) f g (run_keeps context code) (λ stack more s a t r q. run_follows context code more stack s t a q) h

  -- ---- a piece that stays

  pub moves_piece : (k j : ℕ) (labels : List Label) → moved n m k ≡ j → piece new j ≡ piece old k →
      Moves (λ stack s. pass old_control old (At k labels stack s)) (λ stack s. pass new_control new (At j (las labels) stack s))
  moves_piece k j labels e same =
      moves_is (λ stack s. go_on (old_control k labels) (run (piece old k) stack s))
      (λ stack s. go_on (new_control (moved n m k) (las labels)) (run (piece old k) stack s))
      (λ stack s. pass old_control old (At k labels stack s)) (λ stack s. pass new_control new (At j (las labels) stack s))
      (λ stack s. refl)
      (λ stack s. ap₂ (λ (i : ℕ) (code : List Instruction). go_on (new_control i (las labels)) (run code stack s)) (sym e) same)
      (moves_code (piece old k) (old_control k labels) (new_control (moved n m k) (las labels)) (moves_control k labels))

  -- ---- the piece in which the code stands

  past_on : (f : List Value → State → Reached) (o : Outcome) →
      visits_past new_control new c n (go_on f o) ≡ go_on (λ stack s. visits_past new_control new c n (f stack s)) o
  past_on f (Ends vs t) = refl
  past_on f (Traps cause gs r) = past_done new_control new c n (Traps cause gs r)
  past_on f Stuck = past_done new_control new c n Stuck

  pub go_on_same : (f g : List Value → State → Reached) → ((stack : List Value) (s : State) → f stack s ≡ g stack s) → (o : Outcome) → go_on f o ≡ go_on g o
  go_on_same f g h (Ends vs t) = h vs t
  go_on_same f g h (Traps cause gs r) = refl
  go_on_same f g h Stuck = refl

  abbrev pub first : List Instruction
  first = piece front n

  abbrev pub last : List Instruction
  last = piece back 0

  pub old_here : (labels : List Label) (stack : List Value) (s : State) →
      pass old_control old (At n labels stack s) ≡
      go_on (λ stack s. go_on (λ stack s. go_on (old_control n labels) (run last stack s)) (run own stack s)) (run first stack s)
  old_here labels stack s =
      ap (λ code. go_on (old_control n labels) (run code stack s))
      (last_piece front (map (λ (i : Instruction). op.Instr i) own ++ back) ∙ ap (λ code. first ++ code) (coded_first own back)) ∙
      (ap (go_on (old_control n labels)) (run_append first (own ++ last) stack s) ∙
      (go_then (old_control n labels) (own ++ last) (run first stack s) ∙
      go_on_same (λ stack s. go_on (old_control n labels) (run (own ++ last) stack s))
      (λ stack s. go_on (λ stack s. go_on (old_control n labels) (run last stack s)) (run own stack s))
      (λ stack s. ap (go_on (old_control n labels)) (run_append own last stack s) ∙ go_then (old_control n labels) last (run own stack s))
      (run first stack s)))

  -- the visits of the code's pieces, with its first instructions left of the piece before
  abbrev pub through_code : List Label → List Value → State → Reached
  through_code labels stack s = visits_past new_control new c n (go_on (new_control n labels) (run (piece (written c back) 0) stack s))

  pub new_goes : (labels : List Label) (stack : List Value) (s : State) →
      visits_past new_control new c n (pass new_control new (At n labels stack s)) ≡ go_on (through_code labels) (run first stack s)
  new_goes labels stack s =
      let code = piece (written c back) 0 in
      ap (λ is. visits_past new_control new c n (go_on (new_control n labels) (run is stack s))) (last_piece front (written c back)) ∙
      (ap (λ o. visits_past new_control new c n (go_on (new_control n labels) o)) (run_append first code stack s) ∙
      (ap (visits_past new_control new c n) (go_then (new_control n labels) code (run first stack s)) ∙
      past_on (λ stack s. go_on (new_control n labels) (run code stack s)) (run first stack s)))

  with_stuck : (more : List Value) (o : Outcome) → with_more more o ≡ Stuck → o ≡ Stuck
  with_stuck more (Ends vs s) e = absurd cc
  with_stuck more (Traps cause gs r) e = absurd cc
  with_stuck more Stuck e = refl

  -- where the old code isn't stuck, the new one goes through as it runs
  moves_through : (labels : List Label) →
      Moves (λ stack s. go_on (λ stack s. go_on (old_control n labels) (run last stack s)) (run own stack s)) (through_code (las labels))
  moves_through labels stack more s a t r z =
      let f : List Value → State → Reached = λ stack s. go_on (old_control n labels) (run last stack s) in
      let g : List Value → State → Reached = λ stack s. go_on (new_control (moved n m n) (las labels)) (run last stack s) in
      let there : past c n ≡ moved n m n = past_is ∙ sym (moved_behind n m n (omega arith)) in
      let free : run own stack s ≢ Stuck = λ e. z (ap (go_on f) e) in
      let (b, d, at) = runs_as stack more s a t r free in
      let (after, u, is) = moves_then (run own) (run_wrapped info c) f g (run_keeps context own) runs_as
      (moves_code last (old_control n labels) (new_control (moved n m n) (las labels)) (moves_control n labels)) stack more s a t r z in (
        after,
        u,
        through info results (by_asked (structural new) beyond) new c n back (las labels) stack (with_globals more s) new_here
            (λ e. free (with_stuck b (run own stack s) (sym at ∙ e))) ∙
            (ap (λ i. go_on (λ stack s. go_on (new_control i (las labels)) (run last stack s)) (run_wrapped info c stack (with_globals more s))) there ∙ is),
      )

  pub moves_here : (labels : List Label) →
      Moves (λ stack s. pass old_control old (At n labels stack s))
      (λ stack s. visits_past new_control new c n (pass new_control new (At n (las labels) stack s)))
  moves_here labels =
      let x : List Value → State → Reached = λ stack s. go_on (λ stack s. go_on (old_control n labels) (run last stack s)) (run own stack s) in
      moves_is (λ stack s. go_on x (run first stack s)) (λ stack s. go_on (through_code (las labels)) (run first stack s))
      (λ stack s. pass old_control old (At n labels stack s))
      (λ stack s. visits_past new_control new c n (pass new_control new (At n (las labels) stack s)))
      (old_here labels) (new_goes (las labels)) (moves_code first x (through_code (las labels)) (moves_through labels))
