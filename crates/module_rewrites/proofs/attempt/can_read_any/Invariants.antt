use Rattle.std.proofs.Common.{◌≤◌, ◌<◌, ℕ}
use Rattle.module_rewrites.specs.Attempt.{CanRead}
use Rattle.module_rewrites.proofs.attempt.can_read_any.Given as goal

abbrev pub invariant-loop-n : goal.invariant-loop-n
invariant-loop-n l = (n : ℕ) → l.from ≤ n → n < l.n → ¬ (CanRead l.bytes l.info l.layout n)
