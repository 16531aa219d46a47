-- A run in a body in which operators were put in between two parts of another one: the visits of the pieces that both have.
use Rattle.std.proofs.Common.{◌≡◌, ℕ, ◌+◌, ◌<◌, List, refl, sym, ap, ap₂, ◌∙◌, arith, inl, inr}
use Rattle.std.proofs.lemmas.Bool.{cases_eq, cases_lt}
use Rattle.wasm_code.specs.Instruction.{Instruction}
use Rattle.wasm_code.specs.declared.operator.Operator.{Operator}
use Rattle.wasm_execution.specs.Values.{Value, State, Outcome, Ends, Traps, Stuck}
use Rattle.wasm_execution.specs.Machine.{run}
use Rattle.wasm_equivalence.specs.control.Function.{piece, Label, Reached, Done, Control, go_on, pass, visit, At}
use Rattle.wrapped_code.proofs.MovedLemmas.{moved, moved_piece, moved_labels, moved_reached, moved_before, moved_behind, piece_before, piece_behind}
use Rattle.wrapped_code.proofs.VisitLemmas.{visit_not, visit_at}

-- where a run is: where one is in the body without these operators, or right behind them
pub data Spot : Type 0 where
  usual : Reached → Spot
  behind : (labels : List Label) → (stack : List Value) → State → Spot

-- the same in the body with m of them before the operator with number n
abbrev pub seen : (n m : ℕ) → Spot → Reached
seen n m (usual p) = moved_reached n m p
seen n m (behind labels stack s) = At (n + m) (moved_labels n m labels) stack s

-- the visit of a piece that both have
abbrev pub visited : Control → (base : List Operator) → (k : ℕ) → Spot → Spot
visited without base k (usual p) = usual (visit without base k p)
visited without base k (behind labels stack s) = behind labels stack s

-- the visit of the piece right behind
abbrev pub visited_behind : Control → (n : ℕ) → (last : List Instruction) → Spot → Spot
visited_behind without n last (usual p) = usual p
visited_behind without n last (behind labels stack s) = usual (go_on (without n labels) (run last stack s))

-- the visits of all pieces but those that belong to what was put in
pub record Visits (without control : Control) (base body : List Operator) (n m : ℕ) (last : List Instruction) : Type 0 where
  pub before : (k : ℕ) → k < n → (x : Spot) → visit control body k (seen n m x) ≡ seen n m (visited without base k x)
  pub right_behind : (x : Spot) → visit control body (n + m) (seen n m x) ≡ seen n m (visited_behind without n last x)
  pub further : (k j : ℕ) → n < k → j ≡ k + m → (x : Spot) → visit control body j (seen n m x) ≡ seen n m (visited without base k x)

-- The parts meet in the n-th piece, whose last instructions are those. The controls do the same by the new numbers.
module _ (without control : Control) (base body : List Operator) (n m : ℕ) (some : 0 < m) (last : List Instruction)
    (moves : (k : ℕ) (labels : List Label) (stack : List Value) (s : State) →
    control (moved n m k) (moved_labels n m labels) stack s ≡ moved_reached n m (without k labels stack s))
    (pieces_before : (k : ℕ) → k < n → piece body k ≡ piece base k) (pieces_behind : (k : ℕ) → n < k → piece body (k + m) ≡ piece base k)
    (last_is : piece body (n + m) ≡ last) where
  abbrev re : Reached → Reached
  re = moved_reached n m

  abbrev las : List Label → List Label
  las = moved_labels n m

  goes_on : (k : ℕ) (labels : List Label) (o : Outcome) → go_on (control (moved n m k) (las labels)) o ≡ re (go_on (without k labels) o)
  goes_on k labels (Ends vs s) = moves k labels vs s
  goes_on k labels (Traps cause gs r) = refl
  goes_on k labels Stuck = refl

  passes : (k j : ℕ) (code : List Instruction) (labels : List Label) (stack : List Value) (s : State) → moved n m k ≡ j → piece body j ≡ code →
      pass control body (At j (las labels) stack s) ≡ re (go_on (without k labels) (run code stack s))
  passes k j code labels stack s e is =
      ap₂ (λ (i : ℕ) (own : List Instruction). go_on (control i (las labels)) (run own stack s)) (sym e) is ∙ goes_on k labels (run code stack s)

  visit_same : (k j : ℕ) → moved n m k ≡ j → moved_piece n m k ≡ j → ((i : ℕ) → moved_piece n m i ≡ j → i ≡ k) → (n + m ≡ j → ⊥) →
      piece body j ≡ piece base k → (x : Spot) → visit control body j (seen n m x) ≡ seen n m (visited without base k x)
  visit_same k j e f one d is (usual (Done o)) = refl
  visit_same k j e f one d is (usual (At i labels stack s)) = elim (cases_eq i k) [
    | inl same ↦
        ap (λ a. visit control body j (At (moved_piece n m a) (las labels) stack s)) same ∙
        (ap (λ a. visit control body j (At a (las labels) stack s)) f ∙
        (visit_at control body j (las labels) stack s ∙
        (passes k j (piece base k) labels stack s e is ∙
        (ap re (sym (visit_at without base k labels stack s)) ∙ ap (λ a. re (visit without base k (At a labels stack s))) (sym same)))))
    | inr other ↦
        visit_not control body j (moved_piece n m i) (las labels) stack s (λ y. other (one i y)) ∙
        ap re (sym (visit_not without base k i labels stack s other))
  ]
  visit_same k j e f one d is (behind labels stack s) = visit_not control body j (n + m) (las labels) stack s d

  visit_before : (k : ℕ) → k < n → (x : Spot) → visit control body k (seen n m x) ≡ seen n m (visited without base k x)
  visit_before k l =
      visit_same k k (moved_before n m k l) (piece_before n m k (omega arith)) apart (λ e. omega arith) (pieces_before k l)
    where
      apart : (i : ℕ) → moved_piece n m i ≡ k → i ≡ k
      apart i e = elim (cases_lt n i) [
        | inl x ↦ let y = piece_behind n m i x in omega arith
        | inr x ↦ sym (piece_before n m i x) ∙ e
      ]

  visit_further : (k j : ℕ) → n < k → j ≡ k + m → (x : Spot) → visit control body j (seen n m x) ≡ seen n m (visited without base k x)
  visit_further k j l f =
      visit_same k j (moved_behind n m k (omega arith) ∙ sym f) (piece_behind n m k l ∙ sym f) apart (λ e. omega arith)
      (ap (piece body) f ∙ pieces_behind k l)
    where
      apart : (i : ℕ) → moved_piece n m i ≡ j → i ≡ k
      apart i e = elim (cases_lt n i) [
        | inl x ↦ let y = piece_behind n m i x in omega arith
        | inr x ↦ let y = piece_before n m i x in omega arith
      ]

  visit_behind : (x : Spot) → visit control body (n + m) (seen n m x) ≡ seen n m (visited_behind without n last x)
  visit_behind (usual (Done o)) = refl
  visit_behind (usual (At i labels stack s)) = visit_not control body (n + m) (moved_piece n m i) (las labels) stack s apart
    where
      apart : moved_piece n m i ≡ n + m → ⊥
      apart e = elim (cases_lt n i) [
        | inl x ↦ let y = piece_behind n m i x in omega arith
        | inr x ↦ let y = piece_before n m i x in omega arith
      ]
  visit_behind (behind labels stack s) =
      visit_at control body (n + m) (las labels) stack s ∙ passes n (n + m) last labels stack s (moved_behind n m n (omega arith)) last_is

  pub visits_moved : Visits without control base body n m last
  visits_moved = record { before = visit_before; right_behind = visit_behind; further = visit_further }
