-- A branch under a condition, and a conditional with a branch in it: bodies with one of them and with the other one come to the same end.
use Rattle.std.proofs.Common.{◌≡◌, ℕ, zero, suc, ◌-◌, ◌+◌, ◌<◌, ◌≤◌, List, [], ◌∷◌, ◌++◌, length, take, drop, Option, refl, sym, ap, ap₂}
use Rattle.std.proofs.Common.{◌∙◌, subst, arith, append-nil, inl, inr}
use Rattle.std.specs.Prelude.{◌⊎◌}
use Rattle.std.proofs.lemmas.Bool.{cases_eq, cases_lt}
use Rattle.std.proofs.lemmas.List.{length-append}
use Rattle.wasm_code.specs.Instruction.{Instruction}
use Rattle.wasm_code.specs.declared.immediate.BlockType.TheVariants.{Empty}
use Rattle.wasm_code.specs.declared.operator.Operator.{Operator}
use Rattle.wasm_code.specs.declared.operator.Operator.TheVariants as op
use Rattle.wasm_types.specs.Module.{Module}
use Rattle.wasm_types.specs.declared.types.PrimitiveTypeInfo.{PrimitiveTypeInfo}
use Rattle.wasm_types.specs.declared.types.PrimitiveTypeInfo.TheVariants as primitive
use Rattle.wasm_execution.specs.Values.{Value, State, Outcome, Ends, Traps, Stuck}
use Rattle.wasm_execution.specs.Machine.{run}
use Rattle.wasm_equivalence.specs.control.Function.{structural, piece, Label, Reached, Done, Control, go_on, visit, visits, lap, FollowsEnd, At, runs}
use Rattle.wasm_equivalence.specs.control.Standard.{Beyond, standard, by_asked, by_operator, branch, choose_by_value, chosen, otherwise, last_of}
use Rattle.wasm_equivalence.specs.control.Blocks.{closing, other_part}
use Rattle.wrapped_code.proofs.PlaceLemmas.{count, IsBehind, Next, next_is, front_behind, front_structure, front_piece, last_piece}
use Rattle.wrapped_code.proofs.VisitLemmas.{visit_not, visit_at}
use Rattle.wrapped_code.proofs.MovedLemmas.{moved, moved_piece, moved_labels, moved_reached, piece_before, piece_behind}
use Rattle.wrapped_code.proofs.HandlerLemmas.{NoHandler}
use Rattle.wrapped_code.proofs.BetweenLemmas.{branch_between, control_between}
use Rattle.wrapped_code.proofs.UnwrapLemmas.{no_globals, none_more}
use Rattle.wrapped_code.proofs.WrapPieceLemmas.{further, further_is}
use Rattle.wrapped_code.proofs.NestedVisitLemmas.{Spot, usual, behind, seen, visited, visited_behind, Visits, visits_moved}

-- ---- the bodies

-- the branch
abbrev pub plain_part : ℕ → List Operator
plain_part label = op.BrIf label ∷ []

-- the conditional with the branch in it
abbrev pub nested_part : ℕ → List Operator
nested_part label = op.If Empty ∷ op.Br (suc label) ∷ op.End ∷ []

module _ (front back : List Operator) (label : ℕ) where
  abbrev pub plain : List Operator
  plain = front ++ (op.BrIf label ∷ back)

  abbrev pub nested : List Operator
  nested = front ++ (op.If Empty ∷ op.Br (suc label) ∷ op.End ∷ back)

  abbrev base : List Operator
  base = front ++ back

  abbrev n : ℕ
  n = count front

  abbrev xs : List Operator
  xs = structural front

  abbrev ys : List Operator
  ys = structural back

  pub plain_is : structural plain ≡ xs ++ (plain_part label ++ ys)
  plain_is = front_structure front (op.BrIf label ∷ back)

  pub nested_is : structural nested ≡ xs ++ (nested_part label ++ ys)
  nested_is = front_structure front (op.If Empty ∷ op.Br (suc label) ∷ op.End ∷ back)

  -- ---- places

  pub at_plain : Next plain n (op.BrIf label) back
  at_plain = next_is plain n (op.BrIf label) back (λ k. refl) refl (front_behind front (op.BrIf label ∷ back))

  at_if : Next nested n (op.If Empty) (op.Br (suc label) ∷ op.End ∷ back)
  at_if =
      next_is nested n (op.If Empty) (op.Br (suc label) ∷ op.End ∷ back) (λ k. refl) refl
      (front_behind front (op.If Empty ∷ op.Br (suc label) ∷ op.End ∷ back))

  at_branch : Next nested (suc n) (op.Br (suc label)) (op.End ∷ back)
  at_branch = next_is nested (suc n) (op.Br (suc label)) (op.End ∷ back) (λ k. refl) refl at_if.behind

  at_end : Next nested (suc (suc n)) op.End back
  at_end = next_is nested (suc (suc n)) op.End back (λ k. refl) refl at_branch.behind

  front_pieces : (rest : List Operator) (k : ℕ) → k < n → piece (front ++ rest) k ≡ piece base k
  front_pieces rest k l = front_piece front rest k l ∙ sym (front_piece front back k l)

  back_pieces : (body : List Operator) (m : ℕ) → IsBehind body (n + m) back → (k : ℕ) → n < k → piece body (k + m) ≡ piece base k
  back_pieces body m h zero l = absurd (omega arith)
  back_pieces body m h (suc k) l =
      ap (piece body) (let x : suc k + m ≡ suc (k + m) = omega arith in x) ∙
      (h.pieces (k + m) (k - n) (omega arith) ∙ sym ((front_behind front back).pieces k (k - n) (omega arith)))

  abbrev first : List Instruction
  first = piece front n

  ends_first : (rest : List Operator) → piece rest 0 ≡ [] → piece (front ++ rest) n ≡ first
  ends_first rest e = last_piece front rest ∙ (ap (λ is. first ++ is) e ∙ append-nil first)

  -- ---- what the controls do

  module _ (info : Module) (results : List PrimitiveTypeInfo) (beyond : Beyond) (unhandled : NoHandler (xs ++ ys)) where
    abbrev control_in : List Operator → Control
    control_in os = standard info results os (by_asked os beyond)

    abbrev base_control : Control
    base_control = control_in (xs ++ ys)

    abbrev pub plain_control : Control
    plain_control = control_in (structural plain)

    abbrev pub nested_control : Control
    nested_control = control_in (structural nested)

    plain_closed : (d k j : ℕ) → j ≡ k + 1 → closing d k (plain_part label ++ ys) ≡ closing d j ys
    plain_closed d k j e = ap (λ i. closing d i ys) (let x : suc k ≡ j = omega arith in x)

    plain_parted : (d k j : ℕ) → j ≡ k + 1 → other_part d k (plain_part label ++ ys) ≡ other_part d j ys
    plain_parted d k j e = ap (λ i. other_part d i ys) (let x : suc k ≡ j = omega arith in x)

    nested_closed : (d k j : ℕ) → j ≡ k + 3 → closing d k (nested_part label ++ ys) ≡ closing d j ys
    nested_closed d k j e = ap (λ i. closing d i ys) (let x : suc (suc (suc k)) ≡ j = omega arith in x)

    nested_parted : (d k j : ℕ) → j ≡ k + 3 → other_part d k (nested_part label ++ ys) ≡ other_part d j ys
    nested_parted d k j e = ap (λ i. other_part d i ys) (let x : suc (suc (suc k)) ≡ j = omega arith in x)

    plain_moves : (k : ℕ) (labels : List Label) (stack : List Value) (s : State) →
        plain_control (moved n 1 k) (moved_labels n 1 labels) stack s ≡ moved_reached n 1 (base_control k labels stack s)
    plain_moves k labels stack s =
        ap (λ os. control_in os (moved n 1 k) (moved_labels n 1 labels) stack s) plain_is ∙
        control_between xs (plain_part label) ys n 1 refl refl refl plain_closed plain_parted unhandled info results beyond k labels stack s

    nested_moves : (k : ℕ) (labels : List Label) (stack : List Value) (s : State) →
        nested_control (moved n 3 k) (moved_labels n 3 labels) stack s ≡ moved_reached n 3 (base_control k labels stack s)
    nested_moves k labels stack s =
        ap (λ os. control_in os (moved n 3 k) (moved_labels n 3 labels) stack s) nested_is ∙
        control_between xs (nested_part label) ys n 3 refl refl refl nested_closed nested_parted unhandled info results beyond k labels stack s

    abbrev branch_in : List Operator → ℕ → List Label → List Value → State → Reached
    branch_in os = branch info results os (by_asked os beyond)

    plain_branch : (l : ℕ) (labels : List Label) (stack : List Value) (s : State) →
        branch_in (structural plain) l (moved_labels n 1 labels) stack s ≡ moved_reached n 1 (branch_in (xs ++ ys) l labels stack s)
    plain_branch l labels stack s =
        ap (λ os. branch_in os l (moved_labels n 1 labels) stack s) plain_is ∙
        branch_between xs (plain_part label) ys n 1 refl refl refl plain_closed plain_parted unhandled info results beyond l labels stack s

    nested_branch : (l : ℕ) (labels : List Label) (stack : List Value) (s : State) →
        branch_in (structural nested) l (moved_labels n 3 labels) stack s ≡ moved_reached n 3 (branch_in (xs ++ ys) l labels stack s)
    nested_branch l labels stack s =
        ap (λ os. branch_in os l (moved_labels n 3 labels) stack s) nested_is ∙
        branch_between xs (nested_part label) ys n 3 refl refl refl nested_closed nested_parted unhandled info results beyond l labels stack s

    -- ---- the place itself

    -- the runs are at one spot
    pub record Pair (p q : Reached) : Type 0 where
      pub spot : Spot
      pub first_is : p ≡ seen n 1 spot
      pub second_is : q ≡ seen n 3 spot

    abbrev two : Reached → Reached
    two q = visit nested_control nested (suc (suc n)) (visit nested_control nested (suc n) q)

    abbrev three : Reached → Reached
    three q = two (visit nested_control nested n q)

    two_not : (j : ℕ) (labels : List Label) (stack : List Value) (s : State) → (j ≤ n) ⊎ (suc (suc n) < j) → two (At j labels stack s) ≡ At j labels stack s
    two_not j labels stack s h =
        ap (visit nested_control nested (suc (suc n)))
        (visit_not nested_control nested (suc n) j labels stack s (λ e. elim h [ inl l ↦ omega arith | inr l ↦ omega arith ])) ∙
        visit_not nested_control nested (suc (suc n)) j labels stack s (λ e. elim h [ inl l ↦ omega arith | inr l ↦ omega arith ])

    -- no moved run stands inside
    outside : (j : ℕ) → (moved_piece n 3 j ≤ n) ⊎ (suc (suc n) < moved_piece n 3 j)
    outside j = elim (cases_lt n j) [
      | inl x ↦ inr (let y = piece_behind n 3 j x in omega arith)
      | inr x ↦ inl (let y = piece_before n 3 j x in omega arith)
    ]

    last_not : (p : Reached) → visit nested_control nested (suc (suc n)) (moved_reached n 3 p) ≡ moved_reached n 3 p
    last_not (Done o) = refl
    last_not (At j labels stack s) =
        visit_not nested_control nested (suc (suc n)) (moved_piece n 3 j) (moved_labels n 3 labels) stack s
        (λ e. elim (outside j) [ inl l ↦ omega arith | inr l ↦ omega arith ])

    -- the label of the conditional, which stands above this stack
    abbrev inner : List Value → Label
    inner below = record { opener = n; height = length below - 0 }

    -- its branch, to the next label but one
    taken : (labels : List Label) (below : List Value) (s : State) →
        two (At (suc n) (inner below ∷ moved_labels n 3 labels) below s) ≡ moved_reached n 3 (branch_in (xs ++ ys) label labels below s)
    taken labels below s =
        let all = inner below ∷ moved_labels n 3 labels in
        ap (visit nested_control nested (suc (suc n)))
        (visit_at nested_control nested (suc n) all below s ∙
        (ap (λ is. go_on (nested_control (suc n) all) (run is below s)) at_if.first ∙
        (ap (λ o. by_operator info results (structural nested) (by_asked (structural nested) beyond) o (suc n) all below s) at_branch.at ∙
        nested_branch label labels below s))) ∙
        last_not (branch_in (xs ++ ys) label labels below s)

    chosen_pair : (t : PrimitiveTypeInfo) (i : ℕ) (labels : List Label) (below : List Value) (s : State) →
        Pair (chosen t i (branch_in (structural plain) label (moved_labels n 1 labels) below s) (At (suc n) (moved_labels n 1 labels) below s))
        (two (chosen t i (At (suc n) (inner below ∷ moved_labels n 3 labels) below s) (At (suc (suc (suc n))) (moved_labels n 3 labels) below s)))
    chosen_pair primitive.I32 zero labels below s = record {
      spot = behind labels below s;
      first_is = ap (λ i. At i (moved_labels n 1 labels) below s) (let x : suc n ≡ n + 1 = omega arith in x);
      second_is =
          two_not (suc (suc (suc n))) (moved_labels n 3 labels) below s (inr (omega arith)) ∙
          ap (λ i. At i (moved_labels n 3 labels) below s) (let x : suc (suc (suc n)) ≡ n + 3 = omega arith in x);
    }
    chosen_pair primitive.I32 (suc i) labels below s = record {
      spot = usual (branch_in (xs ++ ys) label labels below s);
      first_is = plain_branch label labels below s;
      second_is = taken labels below s;
    }
    chosen_pair t i labels below s = record { spot = usual (Done Stuck); first_is = refl; second_is = refl }

    choose_pair : (vs : List Value) (labels : List Label) (below : List Value) (s : State) →
        Pair (choose_by_value vs (branch_in (structural plain) label (moved_labels n 1 labels) below s) (At (suc n) (moved_labels n 1 labels) below s))
        (two (choose_by_value vs (At (suc n) (inner below ∷ moved_labels n 3 labels) below s) (At (suc (suc (suc n))) (moved_labels n 3 labels) below s)))
    choose_pair [] labels below s = record { spot = usual (Done Stuck); first_is = refl; second_is = refl }
    choose_pair (c ∷ []) labels below s = chosen_pair c.type c.number labels below s
    choose_pair (c ∷ d ∷ vs) labels below s = record { spot = usual (Done Stuck); first_is = refl; second_is = refl }

    pair_is : (p q a b : Reached) → p ≡ a → q ≡ b → Pair a b → Pair p q
    pair_is p q a b e d h = record { spot = h.spot; first_is = e ∙ h.first_is; second_is = d ∙ h.second_is }

    otherwise_is : (labels : List Label) (below : List Value) (s : State) →
        otherwise info results (structural nested) (other_part zero (suc n) (drop (suc n) (structural nested))) n Empty labels below s ≡
        At (suc (suc (suc n))) labels below s
    otherwise_is labels below s =
        ap (λ (o : Option ℕ). otherwise info results (structural nested) o n Empty labels below s) (ap (other_part zero (suc n)) at_if.later) ∙
        ap (λ (i : ℕ). At (suc i) labels below s) (ap (closing zero (suc n)) at_if.later)

    goes : (labels : List Label) (o : Outcome) →
        Pair (go_on (plain_control n (moved_labels n 1 labels)) o) (two (go_on (nested_control n (moved_labels n 3 labels)) o))
    goes labels (Ends stack s) =
        let below = take (length stack - 1) stack in
        let one = moved_labels n 1 labels in
        let three = moved_labels n 3 labels in
        let inside = At (suc n) (inner below ∷ three) below s in
        pair_is (plain_control n one stack s) (two (nested_control n three stack s))
        (choose_by_value (last_of 1 stack) (branch_in (structural plain) label one below s) (At (suc n) one below s))
        (two (choose_by_value (last_of 1 stack) inside (At (suc (suc (suc n))) three below s)))
        (ap (λ o. by_operator info results (structural plain) (by_asked (structural plain) beyond) o n one stack s) at_plain.at)
        (ap two (ap (λ o. by_operator info results (structural nested) (by_asked (structural nested) beyond) o n three stack s) at_if.at ∙
        ap (choose_by_value (last_of 1 stack) inside) (otherwise_is three below s)))
        (choose_pair (last_of 1 stack) labels below s)
    goes labels (Traps cause gs r) = record { spot = usual (Done (Traps cause gs r)); first_is = refl; second_is = refl }
    goes labels Stuck = record { spot = usual (Done Stuck); first_is = refl; second_is = refl }

    passes : (k : ℕ) (labels : List Label) (stack : List Value) (s : State) → k ≡ n →
        Pair (visit plain_control plain n (moved_reached n 1 (At k labels stack s))) (three (moved_reached n 3 (At k labels stack s)))
    passes k labels stack s e =
        let one = moved_labels n 1 labels in
        let more = moved_labels n 3 labels in
        pair_is (visit plain_control plain n (At (moved_piece n 1 k) one stack s)) (three (At (moved_piece n 3 k) more stack s))
        (go_on (plain_control n one) (run first stack s)) (two (go_on (nested_control n more) (run first stack s)))
        (ap (λ i. visit plain_control plain n (At i one stack s)) (piece_before n 1 k (omega arith) ∙ e) ∙
        (visit_at plain_control plain n one stack s ∙
        ap (λ is. go_on (plain_control n one) (run is stack s)) (ends_first (op.BrIf label ∷ back) refl)))
        (ap (λ i. three (At i more stack s)) (piece_before n 3 k (omega arith) ∙ e) ∙
        ap two (visit_at nested_control nested n more stack s ∙
        ap (λ is. go_on (nested_control n more) (run is stack s)) (ends_first (op.If Empty ∷ op.Br (suc label) ∷ op.End ∷ back) refl)))
        (goes labels (run first stack s))

    here : (x : Spot) → Pair (visit plain_control plain n (seen n 1 x)) (three (seen n 3 x))
    here (usual (Done o)) = record { spot = usual (Done o); first_is = refl; second_is = refl }
    here (usual (At k labels stack s)) = elim (cases_eq k n) [
      | inl e ↦ passes k labels stack s e
      | inr d ↦ record {
        spot = usual (At k labels stack s);
        first_is = visit_not plain_control plain n (moved_piece n 1 k) (moved_labels n 1 labels) stack s (apart 1 d);
        second_is =
            ap two (visit_not nested_control nested n (moved_piece n 3 k) (moved_labels n 3 labels) stack s (apart 3 d)) ∙
            two_not (moved_piece n 3 k) (moved_labels n 3 labels) stack s (outside k);
      }
    ]
      where
        apart : (m : ℕ) → (k ≡ n → ⊥) → moved_piece n m k ≡ n → ⊥
        apart m d e = elim (cases_lt n k) [
          | inl x ↦ let y = piece_behind n m k x in omega arith
          | inr x ↦ let y = piece_before n m k x in d (omega arith)
        ]
    here (behind labels stack s) = record {
      spot = behind labels stack s;
      first_is = visit_not plain_control plain n (n + 1) (moved_labels n 1 labels) stack s (λ e. omega arith);
      second_is =
          ap two (visit_not nested_control nested n (n + 3) (moved_labels n 3 labels) stack s (λ e. omega arith)) ∙
          two_not (n + 3) (moved_labels n 3 labels) stack s (inr (omega arith));
    }

    -- ---- laps

    plain_visits : Visits base_control plain_control base plain n 1 (piece back 0)
    plain_visits =
        let e : suc n ≡ n + 1 = omega arith in
        visits_moved base_control plain_control base plain n 1 (omega arith) (piece back 0) plain_moves (front_pieces (op.BrIf label ∷ back))
        (back_pieces plain 1 (subst (λ (i : ℕ). IsBehind plain i back) e at_plain.behind)) (ap (piece plain) (sym e) ∙ at_plain.first)

    nested_visits : Visits base_control nested_control base nested n 3 (piece back 0)
    nested_visits =
        let e : suc (suc (suc n)) ≡ n + 3 = omega arith in
        visits_moved base_control nested_control base nested n 3 (omega arith) (piece back 0) nested_moves
        (front_pieces (op.If Empty ∷ op.Br (suc label) ∷ op.End ∷ back))
        (back_pieces nested 3 (subst (λ (i : ℕ). IsBehind nested i back) e at_end.behind)) (ap (piece nested) (sym e) ∙ at_end.first)

    both : (f g : Reached → Reached) (v : Spot → Spot) → ((x : Spot) → f (seen n 1 x) ≡ seen n 1 (v x)) → ((x : Spot) → g (seen n 3 x) ≡ seen n 3 (v x)) →
        (p q : Reached) → Pair p q → Pair (f p) (g q)
    both f g v h k p q w = record { spot = v w.spot; first_is = ap f w.first_is ∙ h w.spot; second_is = ap g w.second_is ∙ k w.spot }

    upto : (k : ℕ) → k < n → (p q : Reached) → Pair p q → Pair (visits plain_control plain k p) (visits nested_control nested k q)
    upto zero l p q h =
        both (visit plain_control plain 0) (visit nested_control nested 0) (visited base_control base 0) (plain_visits.before 0 l) (nested_visits.before 0 l)
        p q h
    upto (suc k) l p q h =
        both (visit plain_control plain (suc k)) (visit nested_control nested (suc k)) (visited base_control base (suc k)) (plain_visits.before (suc k) l)
        (nested_visits.before (suc k) l) (visits plain_control plain k p) (visits nested_control nested k q) (upto k (omega arith) p q h)

    at_it : (p q : Reached) → Pair p q → Pair (visit plain_control plain n p) (three q)
    at_it p q h =
        let w = here h.spot in
        pair_is (visit plain_control plain n p) (three q) (visit plain_control plain n (seen n 1 h.spot)) (three (seen n 3 h.spot))
        (ap (visit plain_control plain n) h.first_is) (ap three h.second_is) w

    reaching : (k : ℕ) → k ≡ n → (p q : Reached) → Pair p q → Pair (visits plain_control plain k p) (visits nested_control nested (suc (suc k)) q)
    reaching zero e p q h =
        subst (λ (i : ℕ). Pair (visit plain_control plain i p) (visit nested_control nested (suc (suc i)) (visit nested_control nested (suc i)
        (visit nested_control nested i q)))) (sym e) (at_it p q h)
    reaching (suc k) e p q h =
        let a = visits plain_control plain k p in
        let b = visits nested_control nested k q in
        subst (λ (i : ℕ). Pair (visit plain_control plain i a) (visit nested_control nested (suc (suc i)) (visit nested_control nested (suc i)
        (visit nested_control nested i b)))) (sym e) (at_it a b (upto k (omega arith) p q h))

    beyond_it : (l : ℕ) (p q : Reached) → Pair p q →
        Pair (visits plain_control plain (further (suc n) l) p) (visits nested_control nested (further (suc (suc (suc n))) l) q)
    beyond_it zero p q h =
        let one : n + 1 ≡ suc n = omega arith in
        let more : n + 3 ≡ suc (suc (suc n)) = omega arith in
        both (visit plain_control plain (suc n)) (visit nested_control nested (suc (suc (suc n)))) (visited_behind base_control n (piece back 0))
        (λ x. ap (λ i. visit plain_control plain i (seen n 1 x)) (sym one) ∙ plain_visits.right_behind x)
        (λ x. ap (λ i. visit nested_control nested i (seen n 3 x)) (sym more) ∙ nested_visits.right_behind x)
        (visits plain_control plain n p) (visits nested_control nested (suc (suc n)) q) (reaching n refl p q h)
    beyond_it (suc l) p q h =
        let k = further (suc n) l in
        let j = further (suc (suc (suc n))) l in
        let a = further_is (suc n) l in
        let b = further_is (suc (suc (suc n))) l in
        both (visit plain_control plain (suc k)) (visit nested_control nested (suc j)) (visited base_control base k)
        (plain_visits.further k (suc k) (omega arith) (omega arith)) (nested_visits.further k (suc j) (omega arith) (omega arith))
        (visits plain_control plain k p) (visits nested_control nested j q) (beyond_it l p q h)

    plain_length : length (structural plain) ≡ further (suc n) (length ys)
    plain_length =
        let a = length-append xs (plain_part label ++ ys) in let d = further_is (suc n) (length ys) in ap length plain_is ∙ omega arith

    nested_length : length (structural nested) ≡ further (suc (suc (suc n))) (length ys)
    nested_length =
        let a = length-append xs (nested_part label ++ ys) in
        let d = further_is (suc (suc (suc n))) (length ys) in ap length nested_is ∙ omega arith

    lap_pair : (p q : Reached) → Pair p q → Pair (lap plain_control plain p) (lap nested_control nested q)
    lap_pair p q h =
        subst (λ (x : ℕ × ℕ). Pair (visits plain_control plain x.0 p) (visits nested_control nested x.1 q))
        (ap₂ (λ (x y : ℕ). (x, y)) (sym plain_length) (sym nested_length)) (beyond_it (length ys) p q h)

    runs_pair : (fuel : ℕ) (p q : Reached) → Pair p q → Pair (runs plain_control plain fuel p) (runs nested_control nested fuel q)
    runs_pair zero p q h = h
    runs_pair (suc fuel) p q h = runs_pair fuel (lap plain_control plain p) (lap nested_control nested q) (lap_pair p q h)

    pub runs_meet : (fuel : ℕ) (s : State) → Pair (runs plain_control plain fuel (At 0 [] [] s)) (runs nested_control nested fuel (At 0 [] [] s))
    runs_meet fuel s =
        runs_pair fuel (At 0 [] [] s) (At 0 [] [] s) (record {
          spot = usual (At 0 [] [] s);
          first_is = ap (λ i. At i [] [] s) (sym (piece_before n 1 0 (omega arith)));
          second_is = ap (λ i. At i [] [] s) (sym (piece_before n 3 0 (omega arith)));
        })

    -- both end alike, either way round
    pub ends_nested : (p q : Reached) → Pair p q → FollowsEnd [] p q
    ends_nested p q h =
        subst (FollowsEnd [] p) (sym h.second_is) (subst (λ (x : Reached). FollowsEnd [] x (seen n 3 h.spot)) (sym h.first_is) (go h.spot))
      where
        go : (x : Spot) → FollowsEnd [] (seen n 1 x) (seen n 3 x)
        go (usual (At k labels stack s)) = ([], refl, sym (no_globals s))
        go (usual (Done o)) = ([], refl, sym (none_more o))
        go (behind labels stack s) = ([], refl, sym (no_globals s))

    pub ends_plain : (p q : Reached) → Pair p q → FollowsEnd [] q p
    ends_plain p q h =
        subst (FollowsEnd [] q) (sym h.first_is) (subst (λ (x : Reached). FollowsEnd [] x (seen n 1 h.spot)) (sym h.second_is) (go h.spot))
      where
        go : (x : Spot) → FollowsEnd [] (seen n 3 x) (seen n 1 x)
        go (usual (At k labels stack s)) = ([], refl, sym (no_globals s))
        go (usual (Done o)) = ([], refl, sym (none_more o))
        go (behind labels stack s) = ([], refl, sym (no_globals s))
