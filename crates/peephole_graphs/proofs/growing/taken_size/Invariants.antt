use Rattle.std.proofs.Common.{◌≡◌, ◌+◌, drop}
use Rattle.std.specs.List.{sum_by}
use Rattle.peephole_graphs.specs.Measures.{size_kept}
use Rattle.peephole_graphs.proofs.growing.taken_size.Given as goal

abbrev pub invariant-loop-i : goal.invariant-loop-i
invariant-loop-i l = l.size + sum_by (size_kept l.subtrees) (drop l.i-index l.taken) ≡ sum_by (size_kept l.subtrees) l.taken
