-- So many attempts were in vain.
use Rattle.std.proofs.Common.{◌≡◌, ℕ, suc}
use Rattle.module_rewrites.specs.Chosen.{TriesInVain}
use Rattle.module_rewrites.specs.Drawing.{EachInVain}
use Rattle.module_rewrites.proofs.mutation.mutate_again.Given as goal

abbrev pub invariant-draws : goal.invariant-draws
invariant-draws g l =
    (k : ℕ) × (l.counter ≡ suc k)
    × EachInVain (TriesInVain l.scope l.bytes l.info l.layout) (λ j. l.n) k (g.R.Rng.stream l.initial.generator) (g.R.Rng.stream l.generator)
