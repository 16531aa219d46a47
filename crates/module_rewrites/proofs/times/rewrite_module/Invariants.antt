-- Each rewrite so far is of the module that the last one left, by the words behind those of the last one, and was seen so; the module does as before, and is
-- the one of which something was read with a function rewritten.
use Rattle.std.proofs.Common.{◌≡◌, None}
use Rattle.module_rewrites.specs.DoesAsBefore.{DoesAsBefore}
use Rattle.module_rewrites.specs.Mutated.{WasRewrittenAt}
use Rattle.module_rewrites.specs.Watched.{SeesEach}
use Rattle.module_rewrites.proofs.MutatesLemmas.{SoFar}
use Rattle.module_rewrites.proofs.times.rewrite_module.Given as goal

abbrev pub invariant-rewrites : goal.invariant-rewrites
invariant-rewrites g l =
    SoFar l.scope l.counter l.bytes (g.R.Rng.stream l.fn.generator) l.«module».made.items l.«module».bytes.items
    (g.R.Rng.stream l.generator)
    × (l.«module».stopped ≡ None)
    × SeesEach g.W.Watch.saw l.scope (record { bytes = l.bytes; stream = g.R.Rng.stream l.fn.generator; watcher = l.fn.watch })
    l.«module».made.items (record { bytes = l.«module».bytes.items; stream = g.R.Rng.stream l.generator; watcher = l.watch })
    × DoesAsBefore l.scope.exact l.bytes l.«module».bytes.items
    × WasRewrittenAt l.scope l.read.info l.read.layout l.function l.«module».bytes.items
