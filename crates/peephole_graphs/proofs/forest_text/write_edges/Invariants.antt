use Rattle.std.proofs.Common.{◌≡◌, ◌++◌, take, string_bytes}
use Rattle.peephole_graphs.specs.ForestSteps.{edges}
use Rattle.peephole_graphs.proofs.text.ForestWalk.{shown}
use Rattle.peephole_graphs.proofs.forest_text.write_edges.Given as goal

abbrev pub invariant-loop-ids : goal.invariant-loop-ids
invariant-loop-ids l = string_bytes l.text ≡ string_bytes l.fn.text ++ edges (shown (take l.ids-index l.levels))
