-- The trees of the operators so far, operator by operator.
use Rattle.std.proofs.Common.{◌≡◌, ℕ, zero, suc, ◌+◌, List, [], ◌∷◌, ◌++◌, length, Option, Some, refl, sym, ap, ◌∙◌, subst, length-append}
use Rattle.std.specs.Prelude.{slice_get}
use Rattle.wasm_execution.specs.Values.{Context}
use Rattle.body_rewrites.specs.declared.trees.Tree.{Tree}
use Rattle.body_rewrites.specs.Trees.{IsTreeAt, AreTrees}
use Rattle.body_rewrites.specs.Open.{AreTreesBefore}
use Rattle.body_rewrites.proofs.StandsLemmas.{Operators}

pub none_before : (context : Context) (operators : Operators) → AreTreesBefore context operators 0 []
none_before context operators = record { count = refl; each = λ k o e. absurd (no_item k o e) }
  where
    no_item : (k : ℕ) (o : Option Tree) → slice_get {X = Option Tree} [] k ≡ Some o → ⊥
    no_item zero o e = cc
    no_item (suc k) o e = cc

-- what holds of each item so far, and of one more behind them
pub each_pushed : {X : Type 0} (holds : ℕ → X → Type 0) (list : List X) (x : X) → ((k : ℕ) (y : X) → slice_get list k ≡ Some y → holds k y) →
    holds (length list) x → (k : ℕ) (y : X) → slice_get (list ++ x ∷ []) k ≡ Some y → holds k y
each_pushed holds [] x each last zero y e = let same : x ≡ y = cc in subst (holds 0) same last
each_pushed holds [] x each last (suc k) y e = absurd cc
each_pushed holds (z ∷ list) x each last zero y e = each 0 y e
each_pushed holds (z ∷ list) x each last (suc k) y e = each_pushed (λ k. holds (suc k)) list x (λ k. each (suc k)) last k y e

pub one_more : (context : Context) (operators : Operators) (at : ℕ) (list : List (Option Tree)) (o : Option Tree) → AreTreesBefore context operators at list →
    IsTreeAt context operators at o → AreTreesBefore context operators (at + 1) (list ++ o ∷ [])
one_more context operators at list o h t = record {
  count = length-append list (o ∷ []) ∙ ap (λ n. n + 1) h.count;
  each = each_pushed (IsTreeAt context operators) list o h.each (subst (λ n. IsTreeAt context operators n o) (sym h.count) t);
}

pub all_trees : (context : Context) (operators : Operators) (at : ℕ) (list : List (Option Tree)) → AreTreesBefore context operators at list →
    at ≡ length operators →
    AreTrees context operators list
all_trees context operators at list h e = record { count = h.count ∙ e; each = h.each }
