-- None of the changes so far.
use Rattle.body_changes.specs.Body.{ChangesSome}
use Rattle.body_changes.specs.Chosen.{NoneWithin}
use Rattle.body_changes.proofs.changing.any_within.Given as goal

abbrev pub invariant-loop-number : goal.invariant-loop-number
invariant-loop-number l = NoneWithin (ChangesSome l.fn.body l.fn.changes l.fn.words) l.fn.range.start l.number
