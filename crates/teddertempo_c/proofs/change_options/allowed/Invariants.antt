-- Those of the changes so far.
use Rattle.std.proofs.Common.{◌≡◌, take}
use Rattle.std.specs.List.{filter}
use Rattle.teddertempo_c.specs.ChangeOptions.{allows}
use Rattle.teddertempo_c.proofs.change_options.allowed.Given as goal

abbrev pub invariant-loop-change : goal.invariant-loop-change
invariant-loop-change l = l.those.items ≡ filter (allows l.options) (take l.change-index l.changes)
