-- Each change so far is of the module that the last one left, by the words behind those of the last one, and was seen; and the module is valid where the first
-- one was.
use Rattle.std.proofs.Common.{◌≡◌, None}
use Rattle.module_changes.specs.Valid.{StaysValidModule}
use Rattle.module_changes.specs.Watched.{SeesEachChange}
use Rattle.module_changes.proofs.TimesLemmas.{SoFar}
use Rattle.module_changes.proofs.times.change_module.Given as goal

abbrev pub invariant-changes : goal.invariant-changes
invariant-changes g l =
    SoFar l.scope l.bytes (g.R.Rng.stream l.fn.generator) l.counter l.«module».made.items l.«module».bytes.items (g.R.Rng.stream l.generator)
    × (l.«module».stopped ≡ None)
    × StaysValidModule l.bytes l.«module».bytes.items
    × SeesEachChange g.W.Watch.saw l.scope (record { bytes = l.bytes; stream = g.R.Rng.stream l.fn.generator; watcher = l.fn.watch })
    l.«module».made.items
    (record { bytes = l.«module».bytes.items; stream = g.R.Rng.stream l.generator; watcher = l.watch })
