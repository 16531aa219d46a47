-- So many times the words chose nothing that can be made.
use Rattle.module_changes.specs.Entry.{donor_of}
use Rattle.module_changes.proofs.TimesLemmas.{VainSoFar}
use Rattle.module_changes.proofs.attempt.change_read.Given as goal

abbrev pub invariant-draws : goal.invariant-draws
invariant-draws g l =
    VainSoFar (donor_of l.source) l.scope l.reading.bytes.now l.reading.info.now l.reading.layout.now (g.R.Rng.stream l.fn.generator) l.counter l.refusal
    (g.R.Rng.stream l.generator)
