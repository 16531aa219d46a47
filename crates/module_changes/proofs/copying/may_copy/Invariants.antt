-- None of those so far is.
use Rattle.std.proofs.Common.{◌≡◌, ◌<◌, ℕ, Some}
use Rattle.std.specs.Prelude.{slice_get}
use Rattle.body_changes.specs.declared.change.Change.TheVariants.{Copy}
use Rattle.module_changes.proofs.copying.may_copy.Given as goal

abbrev pub invariant-loop-number : goal.invariant-loop-number
invariant-loop-number l = (k : ℕ) → k < l.number → slice_get l.changes k ≡ Some Copy → ⊥
