use Rattle.std.proofs.Common.{◌∙◌, ap, length, take, Err, List, ℕ, rules}
use Rattle.std.proofs.lemmas.Result.{err_from_is_err_and}
use Rattle.peephole_terms.proofs.WalkLemmas.{kept_more, kept_before, around_done, around_refuses}
use Rattle.peephole_terms.proofs.WriterLemmas.{passed}
use Rattle.peephole_terms.proofs.encoder.writer.Writer.write_around.Goals as goal

pub returns-in_err-write_tree-clause-taken : goal.returns-in_err-write_tree-clause-taken
returns-in_err-write_tree-clause-taken g c =
    let p = err_from_is_err_and c.from_residual-in_err-write_tree.result c.from_residual-in_err-write_tree.ensures.1 in
    passed (p.1 ∙ ap (λ x. Err x) p.2)
    (around_refuses c.args.outside.now.before.now c.args.outside.now.after.now c.in_ok-raw.ensures.ok c.in_err-write_tree.ensures.taken)

pub returns-in_err-raw-2-clause-taken : goal.returns-in_err-raw-2-clause-taken
returns-in_err-raw-2-clause-taken g c = record {
  ok = search rules;
  err = search rules;
  in_range = search rules;
  kept = ap (λ (x : List ℕ). take (length c.args.self.now.sink.now) x) c.in_err-raw-2.ensures.err
      ∙ kept_more _ _ _ (kept_before _ _ _ c.in_ok-raw.ensures.ok) c.in_ok-write_tree.ensures.taken.kept;
}

pub returns-clause-taken : goal.returns-clause-taken
returns-clause-taken g c =
    around_done c.args.outside.now.before.now c.args.outside.now.after.now c.in_ok-raw.ensures.ok c.in_ok-raw-2.ensures.ok c.in_ok-write_tree.ensures.taken
