-- How many rewrites a dose is.
use Rattle.std.proofs.Common.{◌≡◌, ◌∙◌, inl, inr, ℕ, ◌+◌, ◌*◌, ◌^◌, ◌-◌, ◌<◌, ◌≤◌, min, List, [], ◌∷◌, ◌++◌, length, get_or, Option, refl}
use Rattle.std.proofs.Common.{sym, ap, subst, arith, length-append}
use Rattle.std.specs.List.{sum_by}
use Rattle.std.proofs.Math.Nat.{min-eq_left}
use Rattle.std.proofs.lemmas.Bool.{cases_eq}
use Rattle.std.proofs.lemmas.List.{get_or_append_left, get_or_push}
use Rattle.std.proofs.lemmas.List.Sums.{sum_by_push}
use Rattle.wasm_types.specs.Module.{Module}
use Rattle.wasm_module.specs.Module.{Layout, IsModule}
use Rattle.module_rewrites.specs.Attempt.{AreChosen, RefusesIndex}
use Rattle.module_rewrites.specs.Dose.{AreOperators, HasOperators, IsOfReading}
use Rattle.module_rewrites.specs.declared.attempt.Reason.{Reason}
use Rattle.module_rewrites.specs.declared.attempt.Reason.TheVariants.{NoRule, NoOwnFunction, Unreadable, NoFunction, UnknownImport, Refused}
use Rattle.module_rewrites.specs.Mutated.{RefusesMutation}
use Rattle.module_rewrites.specs.Scope.{Scope, IsMarked}
use Rattle.module_rewrites.specs.declared.mutation.MutationError.TheVariants.{Memory}

-- the operators of the functions of the first `count` code entries
pub record AreOperatorsTo (only : Option ℕ) (bytes : List ℕ) (info : Module) (layout : Layout) (count all : ℕ) : Type 0 where
  pub owns : List ℕ
  pub one_each : length owns ≡ count
  pub each : (n : ℕ) → n < count → HasOperators only bytes info layout n (get_or owns n 0)
  pub sum : all ≡ sum_by (λ own. own) owns

module _ (only : Option ℕ) (bytes : List ℕ) (info : Module) (layout : Layout) where
  pub operators_none : AreOperatorsTo only bytes info layout 0 0
  operators_none = record { owns = []; one_each = refl; each = λ n below. absurd (omega (arith, below)); sum = refl }

  pub operators_next : (count all own new : ℕ) → AreOperatorsTo only bytes info layout count all → HasOperators only bytes info layout count own →
      new ≡ all + own → AreOperatorsTo only bytes info layout (count + 1) new
  operators_next count all own new so has is = record {
    owns = so.owns ++ own ∷ [];
    one_each = length-append so.owns (own ∷ []) ∙ ap (λ (k : ℕ). k + 1) so.one_each;
    each = λ n below. elim (cases_eq n count) [
      | inl same ↦
          subst (λ (k : ℕ). HasOperators only bytes info layout k (get_or (so.owns ++ own ∷ []) k 0)) (sym same)
          (subst (HasOperators only bytes info layout count) (sym (get_or_push so.owns own 0 count so.one_each)) has)
      | inr other ↦
          let before : n < count = omega (arith, below, other) in
          let within : n < length so.owns = omega (arith, before, so.one_each) in
          subst (HasOperators only bytes info layout n) (sym (get_or_append_left so.owns (own ∷ []) 0 n within)) (so.each n before)
    ];
    sum = is ∙ ap (λ (k : ℕ). k + own) so.sum ∙ sym (sum_by_push (λ (k : ℕ). k) so.owns own);
  }

  pub operators_whole : (count all : ℕ) → count ≡ length layout.entries → AreOperatorsTo only bytes info layout count all →
      AreOperators only bytes info layout all
  operators_whole count all whole so = record {
    owns = so.owns;
    one_each = so.one_each ∙ whole;
    each = λ n below. so.each n (omega (arith, below, whole));
    sum = so.sum;
  }

-- memory was wanting at one of the entries
pub refused_within : (scope : Scope) (bytes : List ℕ) (info : Module) (layout : Layout) (start end n : ℕ) → IsModule bytes info layout →
    IsMarked scope info →
    AreChosen scope.function layout start end → start ≤ n → n < end → RefusesMutation scope bytes Memory
refused_within scope bytes info layout start end n is marked may low high =
    let own = (may.chosen n).0 (low, high) in
    record { info = info; layout = layout; is = is; marked = marked; n = n; inside = own.0; chosen = own.1; refuses = tt }

-- which isn't that no rewrite can be made
pub index_of_reading : (layout : Layout) (only : Option ℕ) (r : Reason) → RefusesIndex layout only r → IsOfReading r
index_of_reading layout only NoRule h = h
index_of_reading layout only NoOwnFunction h = h
index_of_reading layout only (Unreadable e) h = h
index_of_reading layout only (NoFunction f) h = tt
index_of_reading layout only (UnknownImport e) h = tt
index_of_reading layout only (Refused e) h = absurd h

-- numbers of 64 bits, fewer than 2^64 of them, have a sum of 128 bits
pub sum_fits : (all own n new : ℕ) → all ≤ n * 18446744073709551615 → n < 2 ^ 64 → own < 2 ^ 64 → new ≡ min (all + own) (2 ^ 128 - 1) → new ≡ all + own
sum_fits all own n new most few fits is =
    let within : all + own ≤ 2 ^ 128 - 1 = omega (arith, most, few, fits) in
    is ∙ min-eq_left within
