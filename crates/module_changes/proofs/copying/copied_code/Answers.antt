-- The entry that the word names, and its code.
use Rattle.module_changes.specs.Donor.{nothing, taken}
use Rattle.module_changes.proofs.copying.copied_code.Goals as goal

pub returns-in-Some-clause-copied : goal.returns-in-Some-clause-copied
returns-in-Some-clause-copied c = λ may.
    taken c.entry_named-n.result (rw c.word_at.ensures at c.entry_named-n.ensures.named) (rw c.in-Some.is at c.in_ok-code.ensures.some)

pub returns-in-None-clause-copied : goal.returns-in-None-clause-copied
returns-in-None-clause-copied c = λ may.
    nothing c.entry_named-n.result (rw c.word_at.ensures at c.entry_named-n.ensures.named) (rw c.in-None.is at c.in_ok-code.ensures.none)
    c.new-in-None.ensures.items
