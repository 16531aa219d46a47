-- Those of the operators so far.
use Rattle.std.proofs.Common.{◌≡◌, ℕ, ◌<◌, length}
use Rattle.body_rewrites.specs.Asking.{IsUsed}
use Rattle.body_rewrites.specs.Roots.{class_told}
use Rattle.body_rewrites.proofs.counter.mark_classes.Given as goal

abbrev pub invariant-loop-at : goal.invariant-loop-at
invariant-loop-at l = record {
  count : length l.used ≡ 447;
  each : (at : ℕ) → at < l.at → IsUsed l.used (class_told l.operators at);
}
