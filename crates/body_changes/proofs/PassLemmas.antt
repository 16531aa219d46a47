-- The units of the operators so far, operator by operator.
use Rattle.std.proofs.Common.{◌≡◌, ℕ, zero, suc, ◌+◌, List, [], ◌∷◌, ◌++◌, length, Option, Some, ap, ◌∙◌, sym, subst, length-append}
use Rattle.std.specs.Prelude.{slice_get}
use Rattle.wasm_execution.specs.Values.{Context}
use Rattle.body_changes.specs.declared.units.Unit.{Unit}
use Rattle.body_changes.specs.Pass.{AreUnitsBefore}
use Rattle.body_changes.specs.Units.{IsUnitAt}
use Rattle.body_changes.proofs.StandLemmas.{Operators}

pub none_before : (context : Context) (operators : Operators) (list : List (Option Unit)) → list ≡ [] → AreUnitsBefore context operators 0 list
none_before context operators list none = record {
  count = ap length none;
  each = λ k o e. absurd (no_item k o (ap (λ xs. slice_get xs k) (sym none) ∙ e));
}
  where
    no_item : (k : ℕ) (o : Option Unit) → slice_get {X = Option Unit} [] k ≡ Some o → ⊥
    no_item zero o e = cc
    no_item (suc k) o e = cc

-- what holds of each item so far, and of one more behind them
each_pushed : {X : Type 0} (holds : ℕ → X → Type 0) (list : List X) (x : X) → ((k : ℕ) (y : X) → slice_get list k ≡ Some y → holds k y) →
    holds (length list) x → (k : ℕ) (y : X) → slice_get (list ++ x ∷ []) k ≡ Some y → holds k y
each_pushed holds [] x each last zero y e = let same : x ≡ y = cc in subst (holds 0) same last
each_pushed holds [] x each last (suc k) y e = absurd cc
each_pushed holds (z ∷ list) x each last zero y e = each 0 y e
each_pushed holds (z ∷ list) x each last (suc k) y e = each_pushed (λ k. holds (suc k)) list x (λ k. each (suc k)) last k y e

pub one_unit_more : (context : Context) (operators : Operators) (at : ℕ) (list grown : List (Option Unit)) (o : Option Unit) →
    AreUnitsBefore context operators at list → IsUnitAt context operators at o → grown ≡ list ++ o ∷ [] → AreUnitsBefore context operators (at + 1) grown
one_unit_more context operators at list grown o h u g = record {
  count = ap length g ∙ (length-append list (o ∷ []) ∙ ap (λ n. n + 1) h.count);
  each = λ k p e.
      each_pushed (IsUnitAt context operators) list o h.each (subst (λ n. IsUnitAt context operators n o) (sym h.count) u) k p
      (ap (λ xs. slice_get xs k) (sym g) ∙ e);
}
