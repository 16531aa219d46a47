-- The visits of the pieces that belong to wrapped code.
use Rattle.std.proofs.Common.{◌≡◌, ℕ, suc, ◌<◌, ◌≤◌, Bool, List, [], ◌∷◌, ◌++◌, refl, ap, ◌∙◌, arith, inl, inr}
use Rattle.std.specs.Prelude.{◌⊎◌, map, if◌then◌else◌}
use Rattle.std.proofs.lemmas.Bool.{eq-eqb, ne_eqb}
use Rattle.wasm_code.specs.Instruction.{Instruction}
use Rattle.wasm_code.specs.declared.operator.Operator.{Operator}
use Rattle.wasm_code.specs.declared.operator.Operator.TheVariants as op
use Rattle.wasm_execution.specs.Values.{Value, State, Outcome, Ends, Traps, Stuck, then_run}
use Rattle.wasm_execution.specs.Machine.{run}
use Rattle.wasm_equivalence.specs.control.Function.{piece, Label, Reached, Done, Control, go_on, pass, visit, visits, At}
use Rattle.wrapped_code.specs.Wrapped.{Wrapped, plain, both, block, loop, choice, leaving, exits, once, trap}
use Rattle.wrapped_code.proofs.PlaceLemmas.{past, past_adds}

pub coded_first : (code : List Instruction) (back : List Operator) → piece (map (λ (i : Instruction). op.Instr i) code ++ back) 0 ≡ code ++ piece back 0
coded_first [] back = refl
coded_first (i ∷ code) back = ap (λ is. i ∷ is) (coded_first code back)

pub go_then : (next : List Value → State → Reached) (code : List Instruction) (o : Outcome) →
    go_on next (then_run o (run code)) ≡ go_on (λ stack s. go_on next (run code stack s)) o
go_then next code (Ends vs s) = refl
go_then next code (Traps cause gs r) = refl
go_then next code Stuck = refl

module _ (control : Control) (body : List Operator) where
  -- ---- visits

  -- the pieces behind the first one, up to that behind the wrapped code
  abbrev pub visits_past : Wrapped → (n : ℕ) → Reached → Reached
  visits_past (plain code) n q = q
  visits_past (both a b) n q = visits_past b (past a n) (visits_past a n q)
  visits_past (block t a) n q = visit control body (suc (past a (suc n))) (visits_past a (suc n) (visit control body (suc n) q))
  visits_past (loop t a) n q = visit control body (suc (past a (suc n))) (visits_past a (suc n) (visit control body (suc n) q))
  visits_past (choice t a b) n q =
      let j = suc (past a (suc n)) in
      visit control body (suc (past b j)) (visits_past b j (visit control body j (visits_past a (suc n) (visit control body (suc n) q))))
  visits_past (leaving t a b) n q =
      let j = suc (past a (suc n)) in
      visit control body (suc (past b j)) (visits_past b j (visit control body j (visits_past a (suc n) (visit control body (suc n) q))))
  visits_past (exits t a b) n q =
      let j = suc (past a (suc n)) in
      visit control body (suc (past b j)) (visits_past b j (visit control body j (visits_past a (suc n) (visit control body (suc n) q))))
  visits_past (once t a) n q =
      let j = suc (past a (suc n)) in
      visit control body (suc j) (visit control body j (visits_past a (suc n) (visit control body (suc n) q)))
  visits_past trap n q = visit control body (suc n) q

  pub visits_split : (c : Wrapped) (n : ℕ) (p : Reached) → visits control body (past c n) p ≡ visits_past c n (visits control body n p)
  visits_split (plain code) n p = refl
  visits_split (both a b) n p = visits_split b (past a n) p ∙ ap (visits_past b (past a n)) (visits_split a n p)
  visits_split (block t a) n p = ap (visit control body (suc (past a (suc n)))) (visits_split a (suc n) p)
  visits_split (loop t a) n p = ap (visit control body (suc (past a (suc n)))) (visits_split a (suc n) p)
  visits_split (choice t a b) n p =
      let j = suc (past a (suc n)) in
      ap (visit control body (suc (past b j)))
      (visits_split b j p ∙ ap (λ x. visits_past b j (visit control body j x)) (visits_split a (suc n) p))
  visits_split (leaving t a b) n p =
      let j = suc (past a (suc n)) in
      ap (visit control body (suc (past b j)))
      (visits_split b j p ∙ ap (λ x. visits_past b j (visit control body j x)) (visits_split a (suc n) p))
  visits_split (exits t a b) n p =
      let j = suc (past a (suc n)) in
      ap (visit control body (suc (past b j)))
      (visits_split b j p ∙ ap (λ x. visits_past b j (visit control body j x)) (visits_split a (suc n) p))
  visits_split (once t a) n p =
      let j = suc (past a (suc n)) in ap (λ x. visit control body (suc j) (visit control body j x)) (visits_split a (suc n) p)
  visits_split trap n p = refl

  pub past_done : (c : Wrapped) (n : ℕ) (o : Outcome) → visits_past c n (Done o) ≡ Done o
  past_done (plain code) n o = refl
  past_done (both a b) n o = ap (visits_past b (past a n)) (past_done a n o) ∙ past_done b (past a n) o
  past_done (block t a) n o = ap (visit control body (suc (past a (suc n)))) (past_done a (suc n) o)
  past_done (loop t a) n o = ap (visit control body (suc (past a (suc n)))) (past_done a (suc n) o)
  past_done (choice t a b) n o =
      let j = suc (past a (suc n)) in
      ap (λ x. visit control body (suc (past b j)) (visits_past b j (visit control body j x))) (past_done a (suc n) o) ∙
      ap (visit control body (suc (past b j))) (past_done b j o)
  past_done (leaving t a b) n o =
      let j = suc (past a (suc n)) in
      ap (λ x. visit control body (suc (past b j)) (visits_past b j (visit control body j x))) (past_done a (suc n) o) ∙
      ap (visit control body (suc (past b j))) (past_done b j o)
  past_done (exits t a b) n o =
      let j = suc (past a (suc n)) in
      ap (λ x. visit control body (suc (past b j)) (visits_past b j (visit control body j x))) (past_done a (suc n) o) ∙
      ap (visit control body (suc (past b j))) (past_done b j o)
  past_done (once t a) n o =
      let j = suc (past a (suc n)) in ap (λ x. visit control body (suc j) (visit control body j x)) (past_done a (suc n) o)
  past_done trap n o = refl

  pub visit_not : (k j : ℕ) (labels : List Label) (stack : List Value) (s : State) → (j ≡ k → ⊥) →
      visit control body k (At j labels stack s) ≡ At j labels stack s
  visit_not k j labels stack s n =
      ap (λ (b : Bool). if b then pass control body (At j labels stack s) else At j labels stack s) (ne_eqb j k n)

  pub visit_at : (k : ℕ) (labels : List Label) (stack : List Value) (s : State) →
      visit control body k (At k labels stack s) ≡ pass control body (At k labels stack s)
  visit_at k labels stack s =
      ap (λ (b : Bool). if b then pass control body (At k labels stack s) else At k labels stack s) (eq-eqb k k refl)

  -- a run that stands before them, or behind
  abbrev pub IsOutside : Wrapped → (n j : ℕ) → Type 0
  IsOutside c n j = (j ≤ n) ⊎ (past c n < j)

  skip_two : (a b : Wrapped) (n j : ℕ) (labels : List Label) (stack : List Value) (s : State) → (j ≤ n) ⊎ (suc (past b (suc (past a (suc n)))) < j) →
      (IsOutside a (suc n) j → visits_past a (suc n) (At j labels stack s) ≡ At j labels stack s) →
      (IsOutside b (suc (past a (suc n))) j → visits_past b (suc (past a (suc n))) (At j labels stack s) ≡ At j labels stack s) →
      (let i = suc (past a (suc n)) in
      visit control body (suc (past b i)) (visits_past b i (visit control body i (visits_past a (suc n) (visit control body (suc n) (At j labels stack s)))))
      ≡ At j labels stack s)
  skip_two a b n j labels stack s h first second =
      let i = suc (past a (suc n)) in
      let x = past_adds a (suc n) in let y = past_adds b i in
      ap (λ q. visit control body (suc (past b i)) (visits_past b i (visit control body i (visits_past a (suc n) q))))
      (visit_not (suc n) j labels stack s (λ e. elim h [ inl l ↦ omega arith | inr l ↦ omega arith ])) ∙
      (ap (λ q. visit control body (suc (past b i)) (visits_past b i (visit control body i q)))
      (first (elim h [ inl l ↦ inl (omega arith) | inr l ↦ inr (omega arith) ])) ∙
      (ap (λ q. visit control body (suc (past b i)) (visits_past b i q))
      (visit_not i j labels stack s (λ e. elim h [ inl l ↦ omega arith | inr l ↦ omega arith ])) ∙
      (ap (visit control body (suc (past b i))) (second (elim h [ inl l ↦ inl (omega arith) | inr l ↦ inr (omega arith) ])) ∙
      visit_not (suc (past b i)) j labels stack s (λ e. elim h [ inl l ↦ omega arith | inr l ↦ omega arith ]))))

  pub past_skip : (c : Wrapped) (n j : ℕ) (labels : List Label) (stack : List Value) (s : State) → IsOutside c n j →
      visits_past c n (At j labels stack s) ≡ At j labels stack s
  past_skip (plain code) n j labels stack s h = refl
  past_skip (both a b) n j labels stack s h =
      let x = past_adds a n in let y = past_adds b (past a n) in
      ap (visits_past b (past a n)) (past_skip a n j labels stack s (elim h [ inl l ↦ inl l | inr l ↦ inr (omega arith) ])) ∙
      past_skip b (past a n) j labels stack s (elim h [ inl l ↦ inl (omega arith) | inr l ↦ inr l ])
  past_skip (block t a) n j labels stack s h =
      let x = past_adds a (suc n) in
      ap (λ q. visit control body (suc (past a (suc n))) (visits_past a (suc n) q))
      (visit_not (suc n) j labels stack s (λ e. elim h [ inl l ↦ omega arith | inr l ↦ omega arith ])) ∙
      (ap (visit control body (suc (past a (suc n))))
      (past_skip a (suc n) j labels stack s (elim h [ inl l ↦ inl (omega arith) | inr l ↦ inr (omega arith) ])) ∙
      visit_not (suc (past a (suc n))) j labels stack s (λ e. elim h [ inl l ↦ omega arith | inr l ↦ omega arith ]))
  past_skip (loop t a) n j labels stack s h =
      let x = past_adds a (suc n) in
      ap (λ q. visit control body (suc (past a (suc n))) (visits_past a (suc n) q))
      (visit_not (suc n) j labels stack s (λ e. elim h [ inl l ↦ omega arith | inr l ↦ omega arith ])) ∙
      (ap (visit control body (suc (past a (suc n))))
      (past_skip a (suc n) j labels stack s (elim h [ inl l ↦ inl (omega arith) | inr l ↦ inr (omega arith) ])) ∙
      visit_not (suc (past a (suc n))) j labels stack s (λ e. elim h [ inl l ↦ omega arith | inr l ↦ omega arith ]))
  past_skip (choice t a b) n j labels stack s h = skip_two a b n j labels stack s h (past_skip a (suc n) j labels stack s)
      (past_skip b (suc (past a (suc n))) j labels stack s)
  past_skip (leaving t a b) n j labels stack s h = skip_two a b n j labels stack s h (past_skip a (suc n) j labels stack s)
      (past_skip b (suc (past a (suc n))) j labels stack s)
  past_skip (exits t a b) n j labels stack s h = skip_two a b n j labels stack s h (past_skip a (suc n) j labels stack s)
      (past_skip b (suc (past a (suc n))) j labels stack s)
  past_skip (once t a) n j labels stack s h =
      skip_two a (plain []) n j labels stack s h (past_skip a (suc n) j labels stack s) (λ x. refl)
  past_skip trap n j labels stack s h = visit_not (suc n) j labels stack s (λ e. elim h [ inl l ↦ omega arith | inr l ↦ omega arith ])
