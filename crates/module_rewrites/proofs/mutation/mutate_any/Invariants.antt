-- So many words have named entries in vain.
use Rattle.std.proofs.Common.{◌<◌, length}
use Rattle.module_rewrites.specs.Chosen.{TriesInVain}
use Rattle.module_rewrites.specs.Drawing.{NamesInVain}
use Rattle.module_rewrites.proofs.mutation.mutate_any.Given as goal

abbrev pub invariant-draws : goal.invariant-draws
invariant-draws g l =
    (l.n < length l.layout.entries)
    × NamesInVain (TriesInVain l.scope l.bytes l.info l.layout) l.layout.entries l.counter (g.R.Rng.stream l.initial.generator) l.n
    (g.R.Rng.stream l.generator)
