use Rattle.std.proofs.Common.{◌≡◌, ◌++◌, map, take, drop}
use Rattle.peephole_graphs.proofs.terms.LowerIds.{lower_id}
use Rattle.peephole_graphs.proofs.span.lower.Given as goal

abbrev pub invariant-loop-id : goal.invariant-loop-id
invariant-loop-id l = l.ids ≡ map (lower_id l.by) (take l.id-index l.initial.ids) ++ drop l.id-index l.initial.ids
