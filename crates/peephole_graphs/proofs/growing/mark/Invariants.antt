use Rattle.std.proofs.Common.{◌≡◌, drop}
use Rattle.peephole_graphs.specs.Growing.{set_each}
use Rattle.peephole_graphs.proofs.growing.mark.Given as goal

abbrev pub invariant-loop-i : goal.invariant-loop-i
invariant-loop-i l = set_each l.parent (drop l.i-index l.ids) l.parents ≡ set_each l.parent l.ids l.initial.parents
