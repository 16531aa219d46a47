-- Why nothing of a module is rewritten.
use Rattle.std.proofs.Common.{◌≡◌, ◌⊎◌, ◌↔◌, ◌<◌, ◌≤◌, ◌+◌, ℕ, List, [], length, Option, None, inl, inr, subst, sym, arith}
use Rattle.std.proofs.lemmas.Bool.{cases_lt}
use Rattle.std.proofs.lemmas.List.{nil_from_length}
use Rattle.wasm_types.specs.Module.{Module}
use Rattle.wasm_module.specs.Module.{Layout, IsModule}
use Rattle.module_rewrites.specs.Attempt.{IsFirstChosen, IsForSize, IsReason, RefusesIndex}
use Rattle.module_rewrites.specs.Mutated.{IsChosen}
use Rattle.module_rewrites.specs.Scope.{Scope}
use Rattle.module_rewrites.specs.declared.attempt.Reason.{Reason}
use Rattle.module_rewrites.specs.declared.attempt.Reason.TheVariants.{NoRule, NoOwnFunction, Unreadable, NoFunction, UnknownImport, Refused}

-- no function may be rewritten
index_reason_of : (scope : Scope) (bytes : List ℕ) (info : Module) (layout : Layout) (r : Reason) → IsModule bytes info layout →
    RefusesIndex layout scope.function r → IsReason scope bytes r
index_reason_of scope bytes info layout NoRule is h = absurd h
index_reason_of scope bytes info layout NoOwnFunction is h = absurd h
index_reason_of scope bytes info layout (Unreadable e) is h = absurd h
index_reason_of scope bytes info layout (NoFunction f) is h = record { info = info; layout = layout; is = is; refuses = h }
index_reason_of scope bytes info layout (UnknownImport e) is h = record { info = info; layout = layout; is = is; refuses = h }
index_reason_of scope bytes info layout (Refused e) is h = absurd h

pub index_reason : (scope : Scope) (bytes : List ℕ) (info : Module) (layout : Layout) (only : Option ℕ) (r : Reason) → only ≡ scope.function →
    IsModule bytes info layout → RefusesIndex layout only r → IsReason scope bytes r
index_reason scope bytes info layout only r named is h =
    index_reason_of scope bytes info layout r is (subst (λ (o : Option ℕ). RefusesIndex layout o r) named h)

-- which isn't for a size
pub index_not_for_size : (layout : Layout) (only : Option ℕ) (r : Reason) → RefusesIndex layout only r → ¬ (IsForSize r)
index_not_for_size layout only NoRule h size = size
index_not_for_size layout only NoOwnFunction h size = size
index_not_for_size layout only (Unreadable e) h size = size
index_not_for_size layout only (NoFunction f) h size = size
index_not_for_size layout only (UnknownImport e) h size = size
index_not_for_size layout only (Refused e) h size = h

-- ---- the first of the functions that may be rewritten

module _ (only : Option ℕ) (layout : Layout) (start end : ℕ)
    (chosen : (n : ℕ) → ((start ≤ n) × (n < end)) ↔ ((n < length layout.entries) × IsChosen only (layout.imported_functions + n))) where
  pub no_function : (only ≡ None) ⊎ (start < end) → end ≤ start → (only ≡ None) × (layout.entries ≡ [])
  no_function (inl none) past = (
    none,
    nil_from_length layout.entries (elim (cases_lt 0 (length layout.entries)) [
      | inl some ↦
          let any : IsChosen only (layout.imported_functions + 0) = subst (λ (o : Option ℕ). IsChosen o (layout.imported_functions + 0)) (sym none) tt in
          let within = (chosen 0).1 (some, any) in
          absurd (omega (arith, within.0, within.1, past))
      | inr few ↦ omega (arith, few)
    ]),
  )
  no_function (inr some) past = absurd (omega (arith, some, past))

  pub first_chosen : start < end → IsFirstChosen only layout start
  first_chosen some =
      let own = (chosen start).0 (omega arith, some) in record {
        inside = own.0;
        chosen = own.1;
        first = λ m below may.
            let inside : m < length layout.entries = omega (arith, below, own.0) in
            let within = (chosen m).1 (inside, may) in
            omega (arith, below, within.0);
      }
