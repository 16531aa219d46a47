-- Operators that ask nothing of what they don't carry, put in between others: these do what they did, and are checked so, by their new numbers.
use Rattle.std.proofs.Common.{◌≡◌, ℕ, zero, suc, ◌-◌, ◌+◌, Bool, true, false, List, [], ◌∷◌, ◌++◌, length, Some, refl, sym, ap, ◌∙◌, subst, arith, inl, inr}
use Rattle.std.specs.Prelude.{slice_get}
use Rattle.std.proofs.lemmas.Bool.{cases_lt}
use Rattle.std.proofs.lemmas.Option.{same_Some}
use Rattle.wasm_code.specs.declared.operator.Operator.{Operator}
use Rattle.wasm_code.specs.declared.operator.Operator.TheVariants as op
use Rattle.wasm_types.specs.Module.{Module}
use Rattle.wasm_types.specs.declared.types.PrimitiveTypeInfo.{PrimitiveTypeInfo}
use Rattle.wasm_execution.specs.Values.{Value, types, State}
use Rattle.wasm_equivalence.specs.control.Function.{Label}
use Rattle.wasm_equivalence.specs.control.Blocks.{Role, handles, tries, catches, delegates, does, role_of, closing, other_part}
use Rattle.wasm_equivalence.specs.control.Standard.{Caught, Deed, gives, jumps, breaks, enters, returns, Beyond, asks_beyond, counted_where}
use Rattle.wasm_equivalence.specs.control.Standard.{asked_before, by_asked, branch, standard}
use Rattle.wasm_equivalence.specs.validation.Algorithm.{Frame}
use Rattle.wasm_equivalence.specs.validation.StandardSteps.{by_step, standard_steps}
use Rattle.wasm_equivalence.specs.validation.Sound.{IsDeed, IsCaught, HasTargets, HasDeeds}
use Rattle.wrapped_code.specs.Handlers.{handles_by}
use Rattle.wrapped_code.proofs.MovedLemmas.{moved, moved_labels, moved_reached, moved_before, moved_behind, get_moved, get_before, get_behind}
use Rattle.wrapped_code.proofs.ControlLemmas.{TellsAlike, branch_moved, control_moved}
use Rattle.wrapped_code.proofs.HandlerLemmas.{NoHandler}
use Rattle.wrapped_code.proofs.TableLemmas.{tables_moved}
use Rattle.wrapped_code.proofs.StepLemmas.{step_numbers}

-- ---- operators that ask what they don't carry

-- none stands at any place
abbrev NoAsking : List Operator → Type 0
NoAsking os = (k : ℕ) (o : Operator) → slice_get os k ≡ Some o → asks_beyond o ≡ true → ⊥

no_first : (x : Operator) (os : List Operator) → asks_beyond x ≡ false → NoAsking os → NoAsking (x ∷ os)
no_first x os one h zero o e t = let z : false ≡ true = sym one ∙ (ap asks_beyond (same_Some x o e) ∙ t) in absurd cc
no_first x os one h (suc k) o e t = h k o e t

no_asking : (os : List Operator) → asked_before os (length os) ≡ 0 → NoAsking os
no_asking [] e = λ k o at t. absurd cc
no_asking (x ∷ os) e = go (asks_beyond x) refl e (no_asking os)
  where
    go : (b : Bool) → asks_beyond x ≡ b → counted_where b (asked_before os (length os)) ≡ 0 → (asked_before os (length os) ≡ 0 → NoAsking os) →
        NoAsking (x ∷ os)
    go true is e later = absurd (omega arith)
    go false is e later = no_first x os is (later e)

-- in a block that catches none nothing is asked of what it makes of an exception
uncaught : (os : List Operator) (b : Beyond) (k : ℕ) (role : Role) (c : Caught) → (handles_by role ≡ true → ⊥) → IsCaught os b k role c
uncaught os b k handles c h = absurd (h refl)
uncaught os b k tries c h = absurd (h refl)
uncaught os b k catches c h = tt
uncaught os b k delegates c h = tt
uncaught os b k does c h = tt

module _ (info : Module) (results : List PrimitiveTypeInfo) (beyond : Beyond) where
  -- what another operator comes to, by its number among those that ask
  number_of : (os : List Operator) (k : ℕ) (d : Deed) → IsDeed info results (by_asked os beyond) k d → IsDeed info results beyond (asked_before os k) d
  number_of os k (gives vs r) h = h
  number_of os k (jumps l vs r) h = h
  number_of os k (breaks mark r) h = tt
  number_of os k (enters i vs) h = h
  number_of os k (returns i vs) h = h

  by_number : (os : List Operator) (k : ℕ) (d : Deed) → IsDeed info results beyond (asked_before os k) d → IsDeed info results (by_asked os beyond) k d
  by_number os k (gives vs r) h = h
  by_number os k (jumps l vs r) h = h
  by_number os k (breaks mark r) h = tt
  by_number os k (enters i vs) h = h
  by_number os k (returns i vs) h = h

  abbrev Fits : (j : ℕ) → List Value → (rest : ℕ) → Type 0
  Fits j operands rest = types operands ≡ beyond.takes j → IsDeed info results beyond j (beyond.deed j operands rest)

-- ---- operators in between

module _ (xs middle ys : List Operator) (n m : ℕ) (n_is : length xs ≡ n) (m_is : length middle ≡ m)
    (none : asked_before middle (length middle) ≡ 0) where
  abbrev before : List Operator
  before = xs ++ ys

  abbrev after : List Operator
  after = xs ++ (middle ++ ys)

  numbers : (k : ℕ) → asked_before after (moved n m k) ≡ asked_before before k
  numbers k = tables_moved xs middle ys n m n_is m_is none k

  same_at : (k : ℕ) → slice_get after (moved n m k) ≡ slice_get before k
  same_at k = get_moved xs middle ys n m n_is m_is k

  pub no_handler_without : NoHandler after → NoHandler before
  no_handler_without h k o at t = h (moved n m k) o (same_at k ∙ at) t

  -- ---- validity

  pub steps_between : (info : Module) (results : List PrimitiveTypeInfo) (beyond : Beyond) (k : ℕ) (fs : List Frame) →
      standard_steps info results after (by_asked after beyond) (moved n m k) fs ≡ standard_steps info results before (by_asked before beyond) k fs
  steps_between info results beyond k fs =
      let e = numbers k in
      ap (λ o. by_step info results (by_asked after beyond) o (moved n m k) fs) (same_at k) ∙
      step_numbers info results (by_asked after beyond) (by_asked before beyond) (moved n m k) k (ap beyond.labels e) (ap beyond.default e)
      (ap beyond.takes e) (ap beyond.leaves e) (ap beyond.label e) (ap beyond.clauses e) (slice_get before k) fs

  -- ---- what operators come to

  pub targets_without : (info : Module) (beyond : Beyond) → HasTargets info after (by_asked after beyond) → HasTargets info before (by_asked before beyond)
  targets_without info beyond h k type table rest place call at e =
      h (moved n m k) type table rest place call (same_at k ∙ at) (ap (λ j. beyond.target j place rest) (numbers k) ∙ e)

  pub deeds_without : (info : Module) (beyond : Beyond) (results : List PrimitiveTypeInfo) → NoHandler before →
      HasDeeds info results after (by_asked after beyond) → HasDeeds info results before (by_asked before beyond)
  deeds_without info beyond results unhandled h = record {
    deeds = λ k o operands rest at part t a.
        by_number info results beyond before k (beyond.deed (asked_before before k) operands rest)
        (subst (λ (j : ℕ). Fits info results beyond j operands rest) (numbers k)
        (λ t. number_of info results beyond after (moved n m k) (beyond.deed (asked_before after (moved n m k)) operands rest)
        (h.deeds (moved n m k) o operands rest (same_at k ∙ at) part t a)) t);
    caught = λ k mark rest o x at e. uncaught before (by_asked before beyond) k (role_of o) x (unhandled k o at);
  }

  -- the old number of an operator that asks
  record Before (k : ℕ) : Type 0 where
    number : ℕ
    same : slice_get after k ≡ slice_get before number
    asked : asked_before after k ≡ asked_before before number

  at_number : (i k : ℕ) → moved n m i ≡ k → Before k
  at_number i k is = record {
    number = i;
    same = ap (slice_get after) (sym is) ∙ same_at i;
    asked = ap (asked_before after) (sym is) ∙ numbers i;
  }

  place_before : (k : ℕ) (o : Operator) → slice_get after k ≡ Some o → asks_beyond o ≡ true → Before k
  place_before k o at asks = elim (cases_lt k n) [
    | inl l ↦ at_number k k (moved_before n m k l)
    | inr l ↦ elim (cases_lt k (n + m)) [
      | inl x ↦
          absurd (no_asking middle none (k - n) o
          (sym (get_behind xs (middle ++ ys) (k - n) k (omega arith) ∙ get_before middle ys (k - n) (omega arith)) ∙ at) asks)
      | inr x ↦ at_number (k - m) k (moved_behind n m (k - m) (omega arith) ∙ omega arith)
    ]
  ]

  pub targets_with : (info : Module) (beyond : Beyond) → HasTargets info before (by_asked before beyond) → HasTargets info after (by_asked after beyond)
  targets_with info beyond h k type table rest place call at e =
      let b = place_before k (op.CallIndirect type table) at refl in
      h b.number type table rest place call (sym b.same ∙ at) (ap (λ j. beyond.target j place rest) (sym b.asked) ∙ e)

  pub deeds_with : (info : Module) (beyond : Beyond) (results : List PrimitiveTypeInfo) → NoHandler before →
      HasDeeds info results before (by_asked before beyond) → HasDeeds info results after (by_asked after beyond)
  deeds_with info beyond results unhandled h = record {
    deeds = λ k o operands rest at part t a.
        let b = place_before k (op.Other o) at refl in
        by_number info results beyond after k (beyond.deed (asked_before after k) operands rest)
        (subst (λ (j : ℕ). Fits info results beyond j operands rest) (sym b.asked)
        (λ t. number_of info results beyond before b.number (beyond.deed (asked_before before b.number) operands rest)
        (h.deeds b.number o operands rest (sym b.same ∙ at) part t a)) t);
    caught = λ k mark rest o x at e.
        let b = place_before k (op.Other o) at refl in
        uncaught after (by_asked after beyond) k (role_of o) x (unhandled b.number o (sym b.same ∙ at));
  }

  -- ---- the control

  module _ (closed : (d k j : ℕ) → j ≡ k + m → closing d k (middle ++ ys) ≡ closing d j ys)
      (parted : (d k j : ℕ) → j ≡ k + m → other_part d k (middle ++ ys) ≡ other_part d j ys) (unhandled : NoHandler before) (info : Module)
      (results : List PrimitiveTypeInfo) (beyond : Beyond) where
    told : TellsAlike n m before (by_asked before beyond) (by_asked after beyond)
    told = record {
      labels_are = λ k a. ap beyond.labels (numbers k);
      default_is = λ k a. ap beyond.default (numbers k);
      target_is = λ k a place rest. ap (λ j. beyond.target j place rest) (numbers k);
      takes_are = λ k a. ap beyond.takes (numbers k);
      deed_is = λ k a operands rest. ap (λ j. beyond.deed j operands rest) (numbers k);
      leaves_are = λ k a. ap beyond.leaves (numbers k);
      catchers_are = λ k mark rest o at handles. absurd (unhandled k o at handles);
    }

    pub branch_between : (l : ℕ) (labels : List Label) (stack : List Value) (s : State) →
        branch info results after (by_asked after beyond) l (moved_labels n m labels) stack s ≡
        moved_reached n m (branch info results before (by_asked before beyond) l labels stack s)
    branch_between = branch_moved xs middle ys n m n_is m_is closed parted info results (by_asked before beyond) (by_asked after beyond) told

    pub control_between : (k : ℕ) (labels : List Label) (stack : List Value) (s : State) →
        standard info results after (by_asked after beyond) (moved n m k) (moved_labels n m labels) stack s ≡
        moved_reached n m (standard info results before (by_asked before beyond) k labels stack s)
    control_between = control_moved xs middle ys n m n_is m_is closed parted info results (by_asked before beyond) (by_asked after beyond) told
