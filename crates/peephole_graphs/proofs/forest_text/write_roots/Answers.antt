use Rattle.std.proofs.Common.{None, get_or, string_bytes}
use Rattle.std.proofs.lemmas.Result.{err_from_is_err_and}
use Rattle.peephole_graphs.specs.ForestText.{AnswersAmong}
use Rattle.peephole_graphs.proofs.graph.Parents.{no_parent, some_parent}
use Rattle.peephole_graphs.proofs.text.ForestWalk.{root_failed, root_written, child_passed}
use Rattle.peephole_graphs.proofs.forest_text.write_roots.Goals.{then-is_none+in_ok-write_tree, else-is_none}
use Rattle.peephole_graphs.proofs.forest_text.write_roots.Goals as goal

pub returns-in_err-write_tree : goal.returns-in_err-write_tree
returns-in_err-write_tree g c =
    let p = err_from_is_err_and c.from_residual.result c.from_residual.ensures.1 in
    rw (p.1, p.2) (root_failed (AnswersAmong g.F.Fn c.args.f.now c.args.entries.now) c.args.entries.now c.args.parents.now c.loop-index.index
    (string_bytes c.args.text.now) (string_bytes c.loop-index.text) c.loop-index-test.true c.loop-index.invariant c.in_err-write_tree.field-0.0
    (no_parent (get_or c.args.parents.now c.loop-index.index None) c.is_none.result c.is_none.ensures c.if-is_none.true) c.in_err-write_tree.ensures)

pub loop-index-preserved : goal.loop-index-preserved
loop-index-preserved g c = elim c.if-is_none.branch [
  | then-is_none+in_ok-write_tree w ↦
      rw w.text-is (root_written (AnswersAmong g.F.Fn c.args.f.now c.args.entries.now) c.args.entries.now c.args.parents.now c.loop-index.index
      (string_bytes c.args.text.now) (string_bytes c.loop-index.text) c.loop-index-test.true c.loop-index.invariant
      (no_parent (get_or c.args.parents.now c.loop-index.index None) c.is_none.result c.is_none.ensures w.if-is_none.true) _ w.in_ok-write_tree.ensures)
  | else-is_none w ↦
      let some = some_parent (get_or c.args.parents.now c.loop-index.index None) c.is_none.result c.is_none.ensures w.if-is_none.false in
      rw w.text-is (child_passed (AnswersAmong g.F.Fn c.args.f.now c.args.entries.now) c.args.entries.now c.args.parents.now c.loop-index.index
      (string_bytes c.args.text.now) (string_bytes c.loop-index.text) c.loop-index-test.true c.loop-index.invariant some.0 some.1)
]
