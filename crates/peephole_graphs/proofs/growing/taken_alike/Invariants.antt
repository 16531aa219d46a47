use Rattle.std.proofs.Common.{◌≡◌, drop}
use Rattle.std.specs.Prelude.{slice_index}
use Rattle.peephole_graphs.specs.Measures.{colors, flag_kept, are_alike}
use Rattle.peephole_graphs.proofs.growing.taken_alike.Given as goal

abbrev pub invariant-loop-i : goal.invariant-loop-i
invariant-loop-i l = are_alike (flag_kept l.subtrees) (slice_index (colors l.entries)) l.color (drop l.i-index l.taken)
    ≡ are_alike (flag_kept l.subtrees) (slice_index (colors l.entries)) l.color l.taken
