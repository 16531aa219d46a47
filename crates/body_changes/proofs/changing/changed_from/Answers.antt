-- None at all.
use Rattle.std.proofs.Common.{length}
use Rattle.body_changes.specs.Body.{body_operators_in, ChangesIn}
use Rattle.body_changes.proofs.ChangingLemmas.{none_all, on_none}
use Rattle.body_changes.proofs.changing.changed_from.Goals as goal

pub returns-clause-none : goal.returns-clause-none
returns-clause-none c =
    on_none c.changed_within-2.result (none_all (ChangesIn c.args.body.now c.args.words.now c.args.change) c.args.from
    (length (body_operators_in c.args.body.now)) (rw c.in_default.is at c.in_ok-changed.ensures.none)) c.changed_within-2.ensures.none
