-- The code entries of a module, one after another, and the module.
use Rattle.std.proofs.Common.{◌≡◌, inl, inr, ℕ, ◌+◌, ◌-◌, ◌<◌, ◌≤◌, List, length, Option, Some, None, Result, Ok, Err, sym, subst, arith}
use Rattle.std.specs.Prelude.{IfOk, IfErr, IfNone, IfSome}
use Rattle.std.proofs.lemmas.Bool.{cases_eq, cases_lt}
use Rattle.wasm_types.specs.Module.{Module}
use Rattle.wasm_module.specs.Module.{Layout, IsModule}
use Rattle.body_rewrites.specs.declared.rewrite.Rewrite.{Rewrite}
use Rattle.module_rewrites.specs.Mutated.{CannotMutate, HasNoMutation, IsChosen, IsInVain, IsMutated, IsOfSize, IsRefusedForSize}
use Rattle.module_rewrites.specs.Mutated.{MutatesOne, RefusesChosenEntry, RefusesEntry, RefusesMutation, last_refusal_of}
use Rattle.module_rewrites.specs.Scope.{Scope, IsMarked}
use Rattle.module_rewrites.specs.Size.{IsSmallEnough}
use Rattle.module_rewrites.specs.declared.mutation.MutationError.{MutationError}
use Rattle.module_rewrites.specs.declared.mutation.MutationError.TheVariants.{Read, Memory, TooLong, NotSmaller, Write}

-- ---- no rule applies in some of the entries

-- in those from `from` on, before `to`
abbrev pub NoneWithin : (scope : Scope) (bytes : List ℕ) (info : Module) (layout : Layout) (from to : ℕ) → Type 0
NoneWithin scope bytes info layout from to = (n : ℕ) → from ≤ n → n < to → HasNoMutation scope bytes info layout n

pub none_next : (scope : Scope) (bytes : List ℕ) (info : Module) (layout : Layout) (from k : ℕ) →
    NoneWithin scope bytes info layout from k → HasNoMutation scope bytes info layout k → NoneWithin scope bytes info layout from (k + 1)
none_next scope bytes info layout from k before here = λ n low high. elim (cases_eq n k) [
  | inl same ↦ subst (λ m. HasNoMutation scope bytes info layout m) (sym same) here
  | inr other ↦ before n low (omega arith)
]

pub none_to : (scope : Scope) (bytes : List ℕ) (info : Module) (layout : Layout) (from k to : ℕ) → to ≤ k →
    NoneWithin scope bytes info layout from k → NoneWithin scope bytes info layout from to
none_to scope bytes info layout from k to past before = λ n low high. before n low (omega (arith, past, high))

pub none_in_all : (scope : Scope) (bytes : List ℕ) (info : Module) (layout : Layout) (first count : ℕ) → count ≡ length layout.entries →
    NoneWithin scope bytes info layout first count → NoneWithin scope bytes info layout 0 first →
    (n : ℕ) → n < length layout.entries → HasNoMutation scope bytes info layout n
none_in_all scope bytes info layout first count is behind before = λ n inside. elim (cases_lt n first) [
  | inl lt ↦ before n (omega arith) lt
  | inr le ↦ behind n le (omega (arith, is, inside))
]

pub none_at : (scope : Scope) (bytes : List ℕ) (info : Module) (layout : Layout) (function imported k : ℕ) →
    imported ≡ layout.imported_functions → k ≡ function - imported → HasNoMutation scope bytes info layout k →
    (n : ℕ) → n < length layout.entries → layout.imported_functions + n ≡ function → HasNoMutation scope bytes info layout n
none_at scope bytes info layout function imported k is at here = λ n inside e.
    let same : k ≡ n = omega (arith, is, at, e) in
    subst (λ m. HasNoMutation scope bytes info layout m) same here

-- ---- one of the entries is refused

-- one from `from` on, before `to`
abbrev pub RefusesWithin : (scope : Scope) (bytes : List ℕ) (info : Module) (layout : Layout) (from to : ℕ) → MutationError → Type 0
RefusesWithin scope bytes info layout from to e = (n : ℕ) × (from ≤ n) × (n < to) × RefusesEntry scope bytes info layout n e

-- ---- several attempts in vain

module _ {A : Type 0} where
  pub vain_of_last : (before after : Result (Option A) MutationError) → IsInVain before → IsInVain after → IsInVain (last_refusal_of before after)
  vain_of_last before (Ok None) b a = b
  vain_of_last before (Ok (Some x)) b a = absurd a
  vain_of_last before (Err e) b a = a

  -- there is no rewrite where both attempts found none
  pub none_of_last : (before after : Result (Option A) MutationError) (P Q : Type 0) → IfOk before (λ o. IfNone o P) → IfOk after (λ o. IfNone o Q) →
      IfOk (last_refusal_of before after) (λ o. IfNone o (P × Q))
  none_of_last (Ok None) (Ok None) P Q p q = (p, q)
  none_of_last (Ok (Some x)) (Ok None) P Q p q = tt
  none_of_last (Err e) (Ok None) P Q p q = tt
  none_of_last before (Ok (Some x)) P Q p q = tt
  none_of_last before (Err e) P Q p q = tt

  -- one of them is refused
  pub refused_of_last : (before after : Result (Option A) MutationError) (P Q T : MutationError → Type 0) → ((e : MutationError) → P e → T e) →
      ((e : MutationError) → Q e → T e) → IfErr before P → IfErr after Q → IfErr (last_refusal_of before after) T
  refused_of_last (Ok x) (Ok None) P Q T f g p q = tt
  refused_of_last (Err e) (Ok None) P Q T f g p q = f e p
  refused_of_last before (Ok (Some x)) P Q T f g p q = tt
  refused_of_last before (Err e) P Q T f g p q = g e q

  -- in vain, nothing is made
  pub nothing_made : (r : Result (Option A) MutationError) (P : A → Type 0) → IsInVain r → IfOk r (λ o. IfSome o P)
  nothing_made (Ok None) P vain = tt
  nothing_made (Ok (Some x)) P vain = absurd vain
  nothing_made (Err e) P vain = tt

  -- a refusal for a size is an attempt in vain
  pub vain_of_size : (r : Result (Option A) MutationError) (P : Type 0) → (IsInVain r → P) → IfErr r (λ e. IsOfSize e → P)
  vain_of_size (Ok x) P f = tt
  vain_of_size (Err e) P f = f

  pub err_of_size : (r : Result (Option A) MutationError) (P Q : Type 0) → (P → Q) → IfErr r (λ e. IsOfSize e → P) → IfErr r (λ e. IsOfSize e → Q)
  err_of_size (Ok x) P Q f h = tt
  err_of_size (Err e) P Q f h = λ size. f (h size)

  pub size_in_vain : (r : Result (Option A) MutationError) → IsRefusedForSize r → IsInVain r
  size_in_vain (Ok x) size = absurd size
  size_in_vain (Err e) size = size

-- ---- the module

refuses : (scope : Scope) (bytes : List ℕ) (e : MutationError) → RefusesChosenEntry scope bytes e →
    RefusesMutation scope bytes e
refuses scope bytes (Read fault) h = absurd h.refuses
refuses scope bytes Memory h = h
refuses scope bytes (Write error) h = h
refuses scope bytes TooLong h = h
refuses scope bytes NotSmaller h = h

module _ (scope : Scope) (bytes : List ℕ) (info : Module) (layout : Layout) (known : IsModule bytes info layout)
    (marked : IsMarked scope info) where
  -- any function may be rewritten
  pub refuses_any : scope.function ≡ None → (e : MutationError) →
      (n : ℕ) × (n < length layout.entries) × RefusesEntry scope bytes info layout n e → RefusesMutation scope bytes e
  refuses_any any e h = refuses scope bytes e (record {
    info = info;
    layout = layout;
    is = known;
    marked = marked;
    n = h.0;
    inside = h.1;
    chosen = subst (λ (o : Option ℕ). IsChosen o (layout.imported_functions + h.0)) (sym any) tt;
    refuses = h.2;
  })

  pub mutated_any : scope.function ≡ None → (function : ℕ) (rewrite : Rewrite) (new : List ℕ) →
      MutatesOne scope bytes info layout function rewrite new → IsSmallEnough scope bytes new → IsMutated scope bytes function rewrite new
  mutated_any any function rewrite new h fits = record {
    info = info;
    layout = layout;
    is = known;
    marked = marked;
    chosen = subst (λ (o : Option ℕ). IsChosen o function) (sym any) tt;
    fits = fits;
    mutates = h;
  }

  pub cannot_any : ((n : ℕ) → n < length layout.entries → HasNoMutation scope bytes info layout n) → CannotMutate scope bytes
  cannot_any h = record { info = info; layout = layout; is = known; marked = marked; none = λ n inside chosen. h n inside }

  -- the function that is named
  pub refuses_one : (named : ℕ) → scope.function ≡ Some named → (e : MutationError) →
      (n : ℕ) × (n < length layout.entries) × (layout.imported_functions + n ≡ named) × RefusesEntry scope bytes info layout n e →
      RefusesMutation scope bytes e
  refuses_one named one e h = refuses scope bytes e (record {
    info = info;
    layout = layout;
    is = known;
    marked = marked;
    n = h.0;
    inside = h.1;
    chosen = subst (λ (o : Option ℕ). IsChosen o (layout.imported_functions + h.0)) (sym one) h.2;
    refuses = h.3;
  })

  pub mutated_one : (named : ℕ) → scope.function ≡ Some named → (function : ℕ) (rewrite : Rewrite) (new : List ℕ) →
      (function ≡ named) × MutatesOne scope bytes info layout function rewrite new → IsSmallEnough scope bytes new →
      IsMutated scope bytes function rewrite new
  mutated_one named one function rewrite new h fits = record {
    info = info;
    layout = layout;
    is = known;
    marked = marked;
    chosen = subst (λ (o : Option ℕ). IsChosen o function) (sym one) h.0;
    fits = fits;
    mutates = h.1;
  }

  pub cannot_one : (named : ℕ) → scope.function ≡ Some named →
      ((n : ℕ) → n < length layout.entries → layout.imported_functions + n ≡ named → HasNoMutation scope bytes info layout n) →
      CannotMutate scope bytes
  cannot_one named one h = record {
    info = info;
    layout = layout;
    is = known;
    marked = marked;
    none = λ n inside chosen. h n inside (subst (λ (o : Option ℕ). IsChosen o (layout.imported_functions + n)) one chosen);
  }
