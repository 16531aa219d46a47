-- More was read than the limit.
use Rattle.std.proofs.Common.{ℕ, ◌+◌, ◌<◌, List, length, Option, Some, None, ap, arith, length-append}
use Rattle.std.specs.Io.KnownBytes.{Consumes}
use Rattle.module_commands.specs.declared.failure.Failure.TheVariants.{TooLong}
use Rattle.module_commands.specs.Failures.{FailsToTake}

pub too_long : (a b c : Option (List ℕ)) (text piece : List ℕ) → Consumes a b text → Consumes b c piece → 1073741824 < length text + length piece
    → FailsToTake a TooLong
too_long None b c text piece h k lt = tt
too_long (Some xs) None c text piece h k lt = absurd h
too_long (Some xs) (Some ys) None text piece h k lt = absurd k
too_long (Some xs) (Some ys) (Some zs) text piece h k lt =
    omega (arith, ap length h, ap length k, length-append text ys, length-append piece zs)
