-- The entries so far stay as they are.
use Rattle.module_changes.specs.Chosen.{AreUnchanged}
use Rattle.module_changes.specs.Entry.{choice_of}
use Rattle.module_changes.proofs.choosing.change_within.Given as goal

abbrev pub invariant-loop-n : goal.invariant-loop-n
invariant-loop-n l = AreUnchanged (choice_of l.trial) l.reading.bytes.now l.reading.info.now l.reading.layout.now l.trial.words.now l.fn.range.start l.n
