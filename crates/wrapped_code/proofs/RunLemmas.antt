-- Wrapped code under the standard's control: a run that comes to its place goes through it as it runs by itself.
use Rattle.std.proofs.Common.{◌≡◌, ℕ, zero, suc, ◌-◌, List, [], ◌∷◌, length, take, drop, Option, Some, refl, ap, ◌∙◌, arith, inr}
use Rattle.std.specs.Prelude.{◌≢◌, slice_get}
use Rattle.wasm_code.specs.Instruction.{Instruction}
use Rattle.wasm_code.specs.declared.immediate.BlockType.{BlockType}
use Rattle.wasm_code.specs.declared.operator.Operator.{Operator}
use Rattle.wasm_code.specs.declared.operator.Operator.TheVariants as op
use Rattle.wasm_types.specs.Module.{Module}
use Rattle.wasm_types.specs.declared.types.PrimitiveTypeInfo.{PrimitiveTypeInfo}
use Rattle.wasm_types.specs.declared.types.PrimitiveTypeInfo.TheVariants as primitive
use Rattle.wasm_execution.specs.Values.{Value, State, Outcome, Ends, Traps, Stuck, then_run}
use Rattle.wasm_execution.specs.Machine.{run}
use Rattle.wasm_execution.specs.OutcomeLemmas.{run_append}
use Rattle.wasm_equivalence.specs.control.Function.{structural, piece, Label, Reached, Done, Control, go_on, visit, At}
use Rattle.wasm_equivalence.specs.control.Blocks.{arity_of, closing, other_part}
use Rattle.wasm_equivalence.specs.control.Standard.{last_of, unwound, chosen, choose_by_value, Beyond, end_of, jump_to, otherwise, by_operator, standard}
use Rattle.wrapped_code.specs.Wrapped.{Wrapped, plain, both, block, loop, choice, leaving, exits, once, trap, written, picked_by, picked, run_wrapped}
use Rattle.wrapped_code.proofs.PlaceLemmas.{bones, past, written_structure, past_adds, closing_past, other_past, IsBehind, Next, next_is, written_behind}
use Rattle.wrapped_code.proofs.VisitLemmas.{coded_first, go_then, visits_past, past_done, visit_not, visit_at, past_skip}

module _ (m : Module) (results : List PrimitiveTypeInfo) (beyond : Beyond) (body : List Operator) where
  abbrev structure : List Operator
  structure = structural body

  abbrev control : Control
  control = standard m results structure beyond

  -- in the k-th piece, with this code left of it
  abbrev pub mid : ℕ → List Instruction → List Label → List Value → State → Reached
  mid k code labels stack s = go_on (control k labels) (run code stack s)

  abbrev opened : ℕ → BlockType → List Value → Label
  opened n t stack = record { opener = n; height = length stack - length (arity_of m t).starts }

  operator_at : (n : ℕ) (o : Operator) (labels : List Label) (stack : List Value) (s : State) → slice_get structure n ≡ Some o →
      control n labels stack s ≡ by_operator m results structure beyond (Some o) n labels stack s
  operator_at n o labels stack s at = ap (λ x. by_operator m results structure beyond x n labels stack s) at

  arrives : (k : ℕ) (code : List Instruction) (labels : List Label) (stack : List Value) (s : State) → piece body k ≡ code →
      visit control body k (At k labels stack s) ≡ mid k code labels stack s
  arrives k code labels stack s e = visit_at control body k labels stack s ∙ ap (λ (is : List Instruction). mid k is labels stack s) e

  -- at its end a block is left for the piece behind
  ends_block : (j : ℕ) (back : List Operator) (label : Label) (labels : List Label) → IsBehind body j (op.End ∷ back) → (o : Outcome) →
      visit control body (suc j) (go_on (mid j [] (label ∷ labels)) o) ≡ go_on (mid (suc j) (piece back 0) labels) o
  ends_block j back label labels h (Ends vs t) =
      let x = next_is body j op.End back (λ k. refl) refl h in
      ap (visit control body (suc j)) (operator_at j op.End (label ∷ labels) vs t x.at) ∙ arrives (suc j) (piece back 0) labels vs t x.first
  ends_block j back label labels h (Traps cause gs r) = refl
  ends_block j back label labels h Stuck = refl

  -- the end of a block with two parts
  end_is : (a b : Wrapped) (n : ℕ) (o : Operator) (back : List Operator) →
      ((i : ℕ) (os : List Operator) → closing zero i (o ∷ os) ≡ closing zero (suc i) os) →
      (structural (o ∷ written b (op.End ∷ back)) ≡ o ∷ structural (written b (op.End ∷ back))) →
      drop (suc n) structure ≡ structural (written a (o ∷ written b (op.End ∷ back))) →
      end_of m results structure n ≡ past b (suc (past a (suc n)))
  end_is a b n o back stays keeps e =
      ap (closing zero (suc n)) (e ∙ (written_structure a (o ∷ written b (op.End ∷ back)) ∙
      ap (bones a) (keeps ∙ ap (λ os. o ∷ os) (written_structure b (op.End ∷ back))))) ∙
      (closing_past a zero (suc n) (o ∷ bones b (op.End ∷ structural back)) ∙
      (stays (past a (suc n)) (bones b (op.End ∷ structural back)) ∙ closing_past b zero (suc (past a (suc n))) (op.End ∷ structural back)))

  -- the number of the other part
  part_is : (a b : Wrapped) (n : ℕ) (back : List Operator) →
      drop (suc n) structure ≡ structural (written a (op.Else ∷ written b (op.End ∷ back))) →
      other_part zero (suc n) (drop (suc n) structure) ≡ Some (past a (suc n))
  part_is a b n back e =
      ap (other_part zero (suc n)) (e ∙ written_structure a (op.Else ∷ written b (op.End ∷ back))) ∙
      other_past a zero (suc n) (op.Else ∷ structural (written b (op.End ∷ back)))

  -- the pieces of a block with two parts
  abbrev two_parts : (a b : Wrapped) (n : ℕ) → Reached → Reached
  two_parts a b n q =
      let j = suc (past a (suc n)) in
      visit control body (suc (past b j)) (visits_past control body b j
      (visit control body j (visits_past control body a (suc n) (visit control body (suc n) q))))

  two_done : (a b : Wrapped) (n : ℕ) (o : Outcome) → two_parts a b n (Done o) ≡ Done o
  two_done a b n o =
      let j = suc (past a (suc n)) in
      ap (λ x. visit control body (suc (past b j)) (visits_past control body b j (visit control body j x))) (past_done control body a (suc n) o) ∙
      ap (visit control body (suc (past b j))) (past_done control body b j o)

  -- out of the first part, over the second one
  over_second : (b : Wrapped) (j : ℕ) (back : List Operator) (labels : List Label) → IsBehind body (past b j) (op.End ∷ back) →
      (vs : List Value) (t : State) →
      visit control body (suc (past b j)) (visits_past control body b j (visit control body j (At (suc (past b j)) labels vs t))) ≡
      mid (suc (past b j)) (piece back 0) labels vs t
  over_second b j back labels h vs t =
      let i = suc (past b j) in
      let y = past_adds b j in
      let x = next_is body (past b j) op.End back (λ k. refl) refl h in
      ap (λ q. visit control body i (visits_past control body b j q)) (visit_not control body j i labels vs t (λ e. omega arith)) ∙
      (ap (visit control body i) (past_skip control body b j i labels vs t (inr (omega arith))) ∙
      arrives i (piece back 0) labels vs t x.first)

  -- into the second part, over the first one
  over_first : (a b : Wrapped) (n : ℕ) (code : List Instruction) (labels : List Label) (stack : List Value) (s : State) →
      piece body (suc (past a (suc n))) ≡ code →
      two_parts a b n (At (suc (past a (suc n))) labels stack s) ≡
      visit control body (suc (past b (suc (past a (suc n))))) (visits_past control body b (suc (past a (suc n)))
      (mid (suc (past a (suc n))) code labels stack s))
  over_first a b n code labels stack s e =
      let j = suc (past a (suc n)) in
      let x = past_adds a (suc n) in
      ap (λ q. visit control body (suc (past b j)) (visits_past control body b j (visit control body j (visits_past control body a (suc n) q))))
      (visit_not control body (suc n) j labels stack s (λ e. omega arith)) ∙
      (ap (λ q. visit control body (suc (past b j)) (visits_past control body b j (visit control body j q)))
      (past_skip control body a (suc n) j labels stack s (inr (omega arith))) ∙
      ap (λ q. visit control body (suc (past b j)) (visits_past control body b j q)) (arrives j code labels stack s e))

  picks : (v : Reached → Reached) (next : List Value → State → Reached) (vs : List Value) (x y : Reached) (o p : Outcome) →
      v (Done Stuck) ≡ Done Stuck → (o ≢ Stuck → v x ≡ go_on next o) → (p ≢ Stuck → v y ≡ go_on next p) → picked vs o p ≢ Stuck →
      v (choose_by_value vs x y) ≡ go_on next (picked vs o p)
  picks v next [] x y o p d h k n = d
  picks v next (c ∷ e ∷ vs) x y o p d h k n = d
  picks v next (c ∷ []) x y o p d h k n = go c.type c.number n
    where
      go : (t : PrimitiveTypeInfo) (i : ℕ) → picked_by t i o p ≢ Stuck → v (chosen t i x y) ≡ go_on next (picked_by t i o p)
      go primitive.I32 zero n = k n
      go primitive.I32 (suc i) n = h n
      go t i n = d

  -- the first part of a conditional ends
  first_part : (a b : Wrapped) (n : ℕ) (back : List Operator) (label : Label) (labels : List Label) →
      IsBehind body (past b (suc (past a (suc n)))) (op.End ∷ back) → slice_get structure (past a (suc n)) ≡ Some op.Else → label.opener ≡ n →
      end_of m results structure n ≡ past b (suc (past a (suc n))) → (o : Outcome) →
      (let j = suc (past a (suc n)) in
      visit control body (suc (past b j)) (visits_past control body b j (visit control body j (go_on (mid (past a (suc n)) [] (label ∷ labels)) o))) ≡
      go_on (mid (suc (past b j)) (piece back 0) labels) o)
  first_part a b n back label labels last at own e (Ends vs t) =
      let j = suc (past a (suc n)) in
      ap (λ q. visit control body (suc (past b j)) (visits_past control body b j (visit control body j q)))
      (operator_at (past a (suc n)) op.Else (label ∷ labels) vs t at ∙
      ap (λ i. At (suc i) labels vs t) (ap (end_of m results structure) own ∙ e)) ∙
      over_second b j back labels last vs t
  first_part a b n back label labels last at own e (Traps cause gs r) =
      let j = suc (past a (suc n)) in ap (visit control body (suc (past b j))) (past_done control body b j (Traps cause gs r))
  first_part a b n back label labels last at own e Stuck =
      let j = suc (past a (suc n)) in ap (visit control body (suc (past b j))) (past_done control body b j Stuck)

  -- a branch to the end of its block
  jumps : (t : BlockType) (a b : Wrapped) (n : ℕ) (back : List Operator) (stack : List Value) (labels : List Label) →
      IsBehind body (past b (suc (past a (suc n)))) (op.End ∷ back) → slice_get structure (past a (suc n)) ≡ Some (op.Br 0) →
      slice_get structure n ≡ Some (op.Block t) → end_of m results structure n ≡ past b (suc (past a (suc n))) → (o : Outcome) →
      (let j = suc (past a (suc n)) in
      visit control body (suc (past b j)) (visits_past control body b j
      (visit control body j (go_on (mid (past a (suc n)) [] (opened n t stack ∷ labels)) o))) ≡
      go_on (mid (suc (past b j)) (piece back 0) labels) (then_run o (λ vs s. Ends
      (unwound (length stack - length (arity_of m t).starts) (length (arity_of m t).ends) vs) s)))
  jumps t a b n back stack labels last at opens e (Ends vs s) =
      let j = suc (past a (suc n)) in
      let label = opened n t stack in
      let left = unwound label.height (length (arity_of m t).ends) vs in
      ap (λ q. visit control body (suc (past b j)) (visits_past control body b j (visit control body j q)))
      (operator_at (past a (suc n)) (op.Br 0) (label ∷ labels) vs s at ∙
      (ap (λ x. jump_to m results structure beyond x label labels vs s) opens ∙ ap (λ i. At (suc i) labels left s) e)) ∙
      over_second b j back labels last left s
  jumps t a b n back stack labels last at opens e (Traps cause gs r) =
      let j = suc (past a (suc n)) in ap (visit control body (suc (past b j))) (past_done control body b j (Traps cause gs r))
  jumps t a b n back stack labels last at opens e Stuck =
      let j = suc (past a (suc n)) in ap (visit control body (suc (past b j))) (past_done control body b j Stuck)

  -- a conditional branch to the end of its block
  may_jump : (t : BlockType) (a b : Wrapped) (n : ℕ) (back : List Operator) (stack : List Value) (labels : List Label) →
      IsBehind body (past b (suc (past a (suc n)))) (op.End ∷ back) → Next body (past a (suc n)) (op.BrIf 0) (written b (op.End ∷ back)) →
      slice_get structure n ≡ Some (op.Block t) → end_of m results structure n ≡ past b (suc (past a (suc n))) →
      ((vs : List Value) (s : State) → run_wrapped m b vs s ≢ Stuck →
      visits_past control body b (suc (past a (suc n))) (mid (suc (past a (suc n))) (piece (written b (op.End ∷ back)) 0) (opened n t stack ∷ labels) vs s) ≡
      go_on (mid (past b (suc (past a (suc n)))) (piece (op.End ∷ back) 0) (opened n t stack ∷ labels)) (run_wrapped m b vs s)) →
      (o : Outcome) → then_run o (λ vs u. picked (last_of 1 vs)
      (Ends (unwound (length stack - length (arity_of m t).starts) (length (arity_of m t).ends) (take (length vs - 1) vs)) u)
      (run_wrapped m b (take (length vs - 1) vs) u)) ≢ Stuck →
      (let j = suc (past a (suc n)) in
      visit control body (suc (past b j)) (visits_past control body b j
      (visit control body j (go_on (mid (past a (suc n)) [] (opened n t stack ∷ labels)) o))) ≡
      go_on (mid (suc (past b j)) (piece back 0) labels) (then_run o (λ vs u. picked (last_of 1 vs)
      (Ends (unwound (length stack - length (arity_of m t).starts) (length (arity_of m t).ends) (take (length vs - 1) vs)) u)
      (run_wrapped m b (take (length vs - 1) vs) u))))
  may_jump t a b n back stack labels last y opens e goes (Ends vs s) z =
      let ja = past a (suc n) in
      let j = suc ja in
      let label = opened n t stack in
      let below = take (length vs - 1) vs in
      let left = unwound label.height (length (arity_of m t).ends) below in
      let v : Reached → Reached = λ q. visit control body (suc (past b j)) (visits_past control body b j (visit control body j q)) in
      let next = mid (suc (past b j)) (piece back 0) labels in
      let taken : v (jump_to m results structure beyond (slice_get structure n) label labels below s) ≡ go_on next (Ends left s) =
      ap v (ap (λ x. jump_to m results structure beyond x label labels below s) opens ∙ ap (λ i. At (suc i) labels left s) e) ∙
      over_second b j back labels last left s in
      let stays : run_wrapped m b below s ≢ Stuck → v (At j (label ∷ labels) below s) ≡ go_on next (run_wrapped m b below s) =
      λ z. ap (λ q. visit control body (suc (past b j)) (visits_past control body b j q))
      (arrives j (piece (written b (op.End ∷ back)) 0) (label ∷ labels) below s y.first) ∙
      (ap (visit control body (suc (past b j))) (goes below s z) ∙ ends_block (past b j) back label labels last (run_wrapped m b below s)) in
      ap v (operator_at ja (op.BrIf 0) (label ∷ labels) vs s y.at) ∙
      picks v next (last_of 1 vs) (jump_to m results structure beyond (slice_get structure n) label labels below s) (At j (label ∷ labels) below s)
      (Ends left s) (run_wrapped m b below s) (ap (visit control body (suc (past b j))) (past_done control body b j Stuck)) (λ q. taken) stays z
  may_jump t a b n back stack labels last y opens e goes (Traps cause gs r) z =
      let j = suc (past a (suc n)) in ap (visit control body (suc (past b j))) (past_done control body b j (Traps cause gs r))
  may_jump t a b n back stack labels last y opens e goes Stuck z =
      let j = suc (past a (suc n)) in ap (visit control body (suc (past b j))) (past_done control body b j Stuck)

  -- a conditional jump back that isn't taken
  goes_once : (t : BlockType) (a : Wrapped) (n : ℕ) (back : List Operator) (label : Label) (labels : List Label) →
      Next body (past a (suc n)) (op.BrIf 0) (op.End ∷ back) →
      (o : Outcome) → then_run o (λ vs u. picked (last_of 1 vs) Stuck (Ends (take (length vs - 1) vs) u)) ≢ Stuck →
      (let j = suc (past a (suc n)) in
      visit control body (suc j) (visit control body j (go_on (mid (past a (suc n)) [] (label ∷ labels)) o)) ≡
      go_on (mid (suc j) (piece back 0) labels) (then_run o (λ vs u. picked (last_of 1 vs) Stuck (Ends (take (length vs - 1) vs) u))))
  goes_once t a n back label labels y (Ends vs s) z =
      let ja = past a (suc n) in
      let j = suc ja in
      let below = take (length vs - 1) vs in
      let v : Reached → Reached = λ q. visit control body (suc j) (visit control body j q) in
      let next = mid (suc j) (piece back 0) labels in
      let stays : v (At j (label ∷ labels) below s) ≡ go_on next (Ends below s) =
      ap (visit control body (suc j)) (arrives j [] (label ∷ labels) below s y.first) ∙
      ends_block j back label labels y.behind (Ends below s) in
      ap v (operator_at ja (op.BrIf 0) (label ∷ labels) vs s y.at) ∙
      picks v next (last_of 1 vs) (jump_to m results structure beyond (slice_get structure label.opener) label labels below s) (At j (label ∷ labels) below s)
      Stuck (Ends below s) refl (λ q. absurd (q refl)) (λ q. stays) z
  goes_once t a n back label labels y (Traps cause gs r) z = refl
  goes_once t a n back label labels y Stuck z = absurd (z refl)

  pub through : (c : Wrapped) (n : ℕ) (back : List Operator) (labels : List Label) (stack : List Value) (s : State) →
      IsBehind body n (written c back) → run_wrapped m c stack s ≢ Stuck →
      visits_past control body c n (mid n (piece (written c back) 0) labels stack s) ≡
      go_on (mid (past c n) (piece back 0) labels) (run_wrapped m c stack s)
  through (plain code) n back labels stack s h z =
      ap (λ is. go_on (control n labels) (run is stack s)) (coded_first code back) ∙
      (ap (go_on (control n labels)) (run_append code (piece back 0) stack s) ∙ go_then (control n labels) (piece back 0) (run code stack s))
  through (both a b) n back labels stack s h z =
      ap (visits_past control body b (past a n)) (through a n (written b back) labels stack s h (λ e. z (ap (λ o. then_run o (run_wrapped m b)) e))) ∙
      go (run_wrapped m a stack s) (λ vs t. through b (past a n) back labels vs t (written_behind body a n (written b back) h)) z
    where
      go : (o : Outcome) → ((vs : List Value) (t : State) → run_wrapped m b vs t ≢ Stuck →
          visits_past control body b (past a n) (mid (past a n) (piece (written b back) 0) labels vs t) ≡
          go_on (mid (past b (past a n)) (piece back 0) labels) (run_wrapped m b vs t)) → then_run o (run_wrapped m b) ≢ Stuck →
          visits_past control body b (past a n) (go_on (mid (past a n) (piece (written b back) 0) labels) o) ≡
          go_on (mid (past b (past a n)) (piece back 0) labels) (then_run o (run_wrapped m b))
      go (Ends vs t) next z = next vs t z
      go (Traps cause gs r) next z = past_done control body b (past a n) (Traps cause gs r)
      go Stuck next z = past_done control body b (past a n) Stuck
  through (block t a) n back labels stack s h z =
      let x = next_is body n (op.Block t) (written a (op.End ∷ back)) (λ k. refl) refl h in
      let inner = opened n t stack ∷ labels in
      ap (λ q. visit control body (suc (past a (suc n))) (visits_past control body a (suc n) q))
      (ap (visit control body (suc n)) (operator_at n (op.Block t) labels stack s x.at) ∙
      arrives (suc n) (piece (written a (op.End ∷ back)) 0) inner stack s x.first) ∙
      (ap (visit control body (suc (past a (suc n)))) (through a (suc n) (op.End ∷ back) inner stack s x.behind z) ∙
      ends_block (past a (suc n)) back (opened n t stack) labels (written_behind body a (suc n) (op.End ∷ back) x.behind) (run_wrapped m a stack s))
  through (loop t a) n back labels stack s h z =
      let x = next_is body n (op.Loop t) (written a (op.End ∷ back)) (λ k. refl) refl h in
      let inner = opened n t stack ∷ labels in
      ap (λ q. visit control body (suc (past a (suc n))) (visits_past control body a (suc n) q))
      (ap (visit control body (suc n)) (operator_at n (op.Loop t) labels stack s x.at) ∙
      arrives (suc n) (piece (written a (op.End ∷ back)) 0) inner stack s x.first) ∙
      (ap (visit control body (suc (past a (suc n)))) (through a (suc n) (op.End ∷ back) inner stack s x.behind z) ∙
      ends_block (past a (suc n)) back (opened n t stack) labels (written_behind body a (suc n) (op.End ∷ back) x.behind) (run_wrapped m a stack s))
  through (choice t a b) n back labels stack s h z =
      let x = next_is body n (op.If t) (written a (op.Else ∷ written b (op.End ∷ back))) (λ k. refl) refl h in
      let ja = past a (suc n) in
      let j = suc ja in
      let y = next_is body ja op.Else (written b (op.End ∷ back)) (λ k. refl) refl
      (written_behind body a (suc n) (op.Else ∷ written b (op.End ∷ back)) x.behind) in
      let last = written_behind body b j (op.End ∷ back) y.behind in
      let below = take (length stack - 1) stack in
      let inner = opened n t below ∷ labels in
      let next = mid (suc (past b j)) (piece back 0) labels in
      let other = otherwise m results structure (other_part zero (suc n) (drop (suc n) structure)) n t labels below s in
      let taken : run_wrapped m a below s ≢ Stuck → two_parts a b n (At (suc n) inner below s) ≡ go_on next (run_wrapped m a below s) =
      λ z. ap (λ q. visit control body (suc (past b j)) (visits_past control body b j (visit control body j (visits_past control body a (suc n) q))))
      (arrives (suc n) (piece (written a (op.Else ∷ written b (op.End ∷ back))) 0) inner below s x.first) ∙
      (ap (λ q. visit control body (suc (past b j)) (visits_past control body b j (visit control body j q)))
      (through a (suc n) (op.Else ∷ written b (op.End ∷ back)) inner below s x.behind z) ∙
      first_part a b n back (opened n t below) labels last y.at refl
      (end_is a b n op.Else back (λ i os. refl) refl x.later) (run_wrapped m a below s)) in
      let not_taken : run_wrapped m b below s ≢ Stuck → two_parts a b n other ≡ go_on next (run_wrapped m b below s) =
      λ z. ap (λ (o : Option ℕ). two_parts a b n (otherwise m results structure o n t labels below s)) (part_is a b n back x.later) ∙
      (over_first a b n (piece (written b (op.End ∷ back)) 0) inner below s y.first ∙
      (ap (visit control body (suc (past b j))) (through b j (op.End ∷ back) inner below s y.behind z) ∙
      ends_block (past b j) back (opened n t below) labels last (run_wrapped m b below s))) in
      ap (two_parts a b n) (operator_at n (op.If t) labels stack s x.at) ∙
      picks (two_parts a b n) next (last_of 1 stack) (At (suc n) inner below s) other (run_wrapped m a below s) (run_wrapped m b below s)
      (two_done a b n Stuck) taken not_taken z
  through (leaving t a b) n back labels stack s h z =
      let x = next_is body n (op.Block t) (written a (op.Br 0 ∷ written b (op.End ∷ back))) (λ k. refl) refl h in
      let ja = past a (suc n) in
      let j = suc ja in
      let y = next_is body ja (op.Br 0) (written b (op.End ∷ back)) (λ k. refl) refl
      (written_behind body a (suc n) (op.Br 0 ∷ written b (op.End ∷ back)) x.behind) in
      let last = written_behind body b j (op.End ∷ back) y.behind in
      let inner = opened n t stack ∷ labels in
      ap (two_parts a b n) (operator_at n (op.Block t) labels stack s x.at) ∙
      (ap (λ q. visit control body (suc (past b j)) (visits_past control body b j (visit control body j (visits_past control body a (suc n) q))))
      (arrives (suc n) (piece (written a (op.Br 0 ∷ written b (op.End ∷ back))) 0) inner stack s x.first) ∙
      (ap (λ q. visit control body (suc (past b j)) (visits_past control body b j (visit control body j q)))
      (through a (suc n) (op.Br 0 ∷ written b (op.End ∷ back)) inner stack s x.behind (λ e. z (ap (λ o. then_run o (λ vs u. Ends
      (unwound (length stack - length (arity_of m t).starts) (length (arity_of m t).ends) vs) u)) e))) ∙
      jumps t a b n back stack labels last y.at x.at (end_is a b n (op.Br 0) back (λ i os. refl) refl x.later) (run_wrapped m a stack s)))
  through (exits t a b) n back labels stack s h z =
      let x = next_is body n (op.Block t) (written a (op.BrIf 0 ∷ written b (op.End ∷ back))) (λ k. refl) refl h in
      let ja = past a (suc n) in
      let j = suc ja in
      let y = next_is body ja (op.BrIf 0) (written b (op.End ∷ back)) (λ k. refl) refl
      (written_behind body a (suc n) (op.BrIf 0 ∷ written b (op.End ∷ back)) x.behind) in
      let last = written_behind body b j (op.End ∷ back) y.behind in
      let inner = opened n t stack ∷ labels in
      ap (two_parts a b n) (operator_at n (op.Block t) labels stack s x.at) ∙
      (ap (λ q. visit control body (suc (past b j)) (visits_past control body b j (visit control body j (visits_past control body a (suc n) q))))
      (arrives (suc n) (piece (written a (op.BrIf 0 ∷ written b (op.End ∷ back))) 0) inner stack s x.first) ∙
      (ap (λ q. visit control body (suc (past b j)) (visits_past control body b j (visit control body j q)))
      (through a (suc n) (op.BrIf 0 ∷ written b (op.End ∷ back)) inner stack s x.behind (λ e. z (ap (λ o. then_run o (λ vs u. picked (last_of 1 vs)
      (Ends (unwound (length stack - length (arity_of m t).starts) (length (arity_of m t).ends) (take (length vs - 1) vs)) u)
      (run_wrapped m b (take (length vs - 1) vs) u))) e))) ∙
      may_jump t a b n back stack labels last y x.at (end_is a b n (op.BrIf 0) back (λ i os. refl) refl x.later)
      (λ vs u. through b j (op.End ∷ back) inner vs u y.behind) (run_wrapped m a stack s) z))
  through (once t a) n back labels stack s h z =
      let x = next_is body n (op.Loop t) (written a (op.BrIf 0 ∷ op.End ∷ back)) (λ k. refl) refl h in
      let ja = past a (suc n) in
      let j = suc ja in
      let y = next_is body ja (op.BrIf 0) (op.End ∷ back) (λ k. refl) refl
      (written_behind body a (suc n) (op.BrIf 0 ∷ op.End ∷ back) x.behind) in
      let inner = opened n t stack ∷ labels in
      ap (λ q. visit control body (suc j) (visit control body j (visits_past control body a (suc n) (visit control body (suc n) q))))
      (operator_at n (op.Loop t) labels stack s x.at) ∙
      (ap (λ q. visit control body (suc j) (visit control body j (visits_past control body a (suc n) q)))
      (arrives (suc n) (piece (written a (op.BrIf 0 ∷ op.End ∷ back)) 0) inner stack s x.first) ∙
      (ap (λ q. visit control body (suc j) (visit control body j q))
      (through a (suc n) (op.BrIf 0 ∷ op.End ∷ back) inner stack s x.behind
      (λ e. z (ap (λ o. then_run o (λ vs u. picked (last_of 1 vs) Stuck (Ends (take (length vs - 1) vs) u))) e))) ∙
      goes_once t a n back (opened n t stack) labels y (run_wrapped m a stack s) z))
  through trap n back labels stack s h z =
      ap (visit control body (suc n)) (operator_at n op.Unreachable labels stack s (next_is body n op.Unreachable back (λ k. refl) refl h).at)
