use Rattle.std.proofs.Common.{◌≡◌, ◌++◌, ◌≤◌}
use Rattle.peephole_graphs.specs.Step.{down}
use Rattle.peephole_lang.specs.Term.{numbers_of}
use Rattle.peephole_graphs.proofs.growing.push_missing.Given as goal

abbrev pub invariant-loop-left : goal.invariant-loop-left
invariant-loop-left l = (numbers_of l.ids.items ++ down l.base l.left ≡ numbers_of l.initial.ids.items ++ down l.base l.missing) × (l.left ≤ l.missing)

abbrev pub decreases-loop-left : goal.decreases-loop-left
decreases-loop-left l = l.left
