-- Those of the changes so far.
use Rattle.std.proofs.Common.{[], take}
use Rattle.body_changes.specs.Body.{ChangesIn}
use Rattle.module_changes.specs.Sites.{AddsSites}
use Rattle.module_changes.proofs.sites.add_sites.Given as goal

abbrev pub invariant-loop-change : goal.invariant-loop-change
invariant-loop-change l =
    AddsSites (ChangesIn l.fn.body []) (take l.change-index l.changes) l.fn.operator l.initial.sites.items l.sites.items
