-- Those so far.
use Rattle.std.proofs.Common.{◌≡◌, ◌++◌, take}
use Rattle.std.specs.List.{filter}
use Rattle.body_rewrites.specs.Asking.{is_ready}
use Rattle.body_rewrites.proofs.asked.add_ready.Given as goal

abbrev pub invariant-loop-asked : goal.invariant-loop-asked
invariant-loop-asked l = l.list.items ≡ l.initial.list.items ++ filter (is_ready l.exact) (take l.asked-index l.lines)
