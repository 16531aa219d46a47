-- Attempts at the entries so far were in vain.
use Rattle.std.proofs.Common.{◌≤◌}
use Rattle.std.specs.Prelude.{IfOk, IfErr, IfNone}
use Rattle.module_rewrites.specs.Chosen.{AllInVain}
use Rattle.module_rewrites.specs.Mutated.{IsInVain}
use Rattle.module_rewrites.proofs.ModuleLemmas.{NoneWithin, RefusesWithin}
use Rattle.module_rewrites.proofs.mutation.mutate_first.Given as goal

abbrev pub invariant-loop-n : goal.invariant-loop-n
invariant-loop-n g l =
    (l.n ≤ l.to)
    × IsInVain l.vain
    × IfOk l.vain (λ o. IfNone o (NoneWithin l.scope l.bytes l.info l.layout l.from l.n))
    × IfErr l.vain (RefusesWithin l.scope l.bytes l.info l.layout l.from l.n)
    × AllInVain l.scope l.bytes l.info l.layout l.from l.n (g.R.Rng.stream l.initial.generator) (g.R.Rng.stream l.generator)
