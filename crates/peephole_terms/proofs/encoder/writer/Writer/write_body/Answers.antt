use Rattle.std.proofs.Common.{◌∙◌, ap, sym, length, take, Err, List, ℕ, rules}
use Rattle.std.proofs.lemmas.Result.{err_from_is_err_and}
use Rattle.peephole_terms.proofs.WalkLemmas.{kept_more, kept_before, around_done, around_refuses}
use Rattle.peephole_terms.proofs.WriterLemmas.{passed}
use Rattle.peephole_terms.proofs.encoder.writer.Writer.write_body.Goals as goal

pub write_roots-requires-clause-walkable : goal.write_roots-requires-clause-walkable
write_roots-requires-clause-walkable g c = rw c.entries.ensures (rw c.parents.ensures.value c.requires.walkable)

pub returns-in_err-write_roots-clause-taken : goal.returns-in_err-write_roots-clause-taken
returns-in_err-write_roots-clause-taken g c =
    let p = err_from_is_err_and c.from_residual-in_err-write_roots.result c.from_residual-in_err-write_roots.ensures.1 in
    passed (p.1 ∙ ap (λ x. Err x) p.2) (rw (sym c.entries.ensures) (rw (sym c.parents.ensures.value)
    (around_refuses c.args.outside.now.before.now c.args.outside.now.after.now c.in_ok-raw.ensures.ok c.in_err-write_roots.ensures.taken)))

pub returns-in_err-raw-2-clause-taken : goal.returns-in_err-raw-2-clause-taken
returns-in_err-raw-2-clause-taken g c = record {
  ok = search rules;
  err = search rules;
  in_range = search rules;
  kept = ap (λ (x : List ℕ). take (length c.args.self.now.sink.now) x) c.in_err-raw-2.ensures.err
      ∙ kept_more _ _ _ (kept_before _ _ _ c.in_ok-raw.ensures.ok) c.in_ok-write_roots.ensures.taken.kept;
}

pub returns-clause-taken : goal.returns-clause-taken
returns-clause-taken g c =
    rw (sym c.entries.ensures) (rw (sym c.parents.ensures.value)
    (around_done c.args.outside.now.before.now c.args.outside.now.after.now c.in_ok-raw.ensures.ok c.in_ok-raw-2.ensures.ok c.in_ok-write_roots.ensures.taken))
