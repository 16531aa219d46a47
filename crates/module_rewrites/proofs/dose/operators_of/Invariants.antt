-- The operators of the functions of the entries so far, where these may be rewritten and can be read.
use Rattle.std.proofs.Common.{◌≤◌, ◌*◌, ℕ, Option}
use Rattle.module_rewrites.specs.Attempt.{AreChosen}
use Rattle.module_rewrites.proofs.DoseLemmas.{AreOperatorsTo}
use Rattle.module_rewrites.proofs.dose.operators_of.Given as goal

abbrev pub invariant-loop-n : goal.invariant-loop-n
invariant-loop-n l =
    ((only : Option ℕ) → AreChosen only l.layout l.entries.start l.entries.end → AreOperatorsTo only l.bytes l.info l.layout l.n l.all)
    × (l.all ≤ l.n * 18446744073709551615)
