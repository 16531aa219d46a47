use Rattle.std.proofs.Common.{[], string_bytes}
use Rattle.peephole_graphs.specs.ForestText.{AnswersAmong, tree_lines, entry_term}
use Rattle.peephole_graphs.proofs.text.ForestWalk.{IsInside, IsRest, measure}
use Rattle.peephole_graphs.proofs.forest_text.write_tree.Given as goal

abbrev pub invariant-loop-ids : goal.invariant-loop-ids
invariant-loop-ids g l = record {
  inside : IsInside l.entries l.levels.items;
  rest : IsRest (AnswersAmong g.F.Fn l.f l.entries) l.entries (string_bytes l.fn.text) (tree_lines [] [] (entry_term l.entries l.root)) l.levels.items
      (string_bytes l.text);
}

abbrev pub decreases-loop-ids : goal.decreases-loop-ids
decreases-loop-ids g l = measure l.entries l.levels.items
