use Rattle.std.proofs.Common.{ap, sym, get_or, refl, ◌∙◌, None, Err, arith}
use Rattle.std.proofs.lemmas.Grind.{common_steps}
use Rattle.std.proofs.lemmas.List.{take_all}
use Rattle.std.proofs.lemmas.List.Elements.{All-nil}
use Rattle.std.proofs.lemmas.Result.{err_from_is_err_and}
use Rattle.peephole_graphs.proofs.graph.Parents.{no_parent, some_parent}
use Rattle.peephole_terms.specs.EncoderSteps.{IsInRange}
use Rattle.peephole_terms.specs.Expansion.{term_in}
use Rattle.peephole_terms.proofs.EncoderLemmas.{root_done, root_refused, child_done}
use Rattle.peephole_terms.proofs.WalkLemmas.{passed_on, kept_more}
use Rattle.peephole_terms.proofs.WriterLemmas.{goes_on, same_more}
use Rattle.peephole_terms.proofs.encoder.writer.Writer.write_roots.Goals.{then-is_none+in_ok-write_root, else-is_none}
use Rattle.peephole_terms.proofs.encoder.writer.Writer.write_roots.Goals as goal

pub returns-in_err-write_root-clause-taken : goal.returns-in_err-write_root-clause-taken
returns-in_err-write_root-clause-taken g c =
    let result = c.from_residual.result in
    let p = err_from_is_err_and result c.from_residual.ensures.1 in
    let d = c.in_err-write_root.field-0.0 in
    passed_on result d (p.1 ∙ ap (λ x. Err x) p.2)
    (root_refused c.args.insertion_point (term_in c.args.expr.now) c.args.entries.now c.args.parents.now c.loop-index.index c.loop-index-test.true d
    (no_parent (get_or c.args.parents.now c.loop-index.index None) c.is_none.result c.is_none.ensures c.if-is_none.true)
    c.loop-index.invariant.taken (goes_on c.loop-index.invariant.same.globals c.in_err-write_root.ensures.taken).err)
    (kept_more _ _ _ c.loop-index.invariant.taken.kept c.in_err-write_root.ensures.taken.kept)

pub returns-in_err-write_root-clause-same : goal.returns-in_err-write_root-clause-same
returns-in_err-write_root-clause-same g c = same_more c.loop-index.invariant.same c.in_err-write_root.ensures.same

pub loop-index-init : goal.loop-index-init
loop-index-init g c = record {
  taken = record { ok = refl; err = tt; in_range = All-nil IsInRange; kept = grind (arith, common_steps) };
  same = record { globals = refl; sink = refl; requests = refl; rng = refl };
  rests = c.new-walk.ensures;
}

pub loop-index-preserved : goal.loop-index-preserved
loop-index-preserved g c = elim c.if-is_none.branch [
  | then-is_none+in_ok-write_root w ↦ rw (w.self-is, w.walk-is) (record {
    taken = root_done c.args.insertion_point (term_in c.args.expr.now) c.args.entries.now c.args.parents.now c.loop-index.index c.loop-index-test.true
        (no_parent (get_or c.args.parents.now c.loop-index.index None) c.is_none.result c.is_none.ensures w.if-is_none.true)
        c.loop-index.invariant.taken (goes_on c.loop-index.invariant.same.globals w.in_ok-write_root.ensures.taken);
    same = same_more c.loop-index.invariant.same w.in_ok-write_root.ensures.same;
    rests = w.in_ok-write_root.ensures.rests;
  })
  | else-is_none w ↦
      let some = some_parent (get_or c.args.parents.now c.loop-index.index None) c.is_none.result c.is_none.ensures w.if-is_none.false in
      rw (w.self-is, w.walk-is) (record {
        taken = child_done c.args.insertion_point (term_in c.args.expr.now) c.args.entries.now c.args.parents.now c.loop-index.index
            c.loop-index-test.true some.0 some.1 c.loop-index.invariant.taken;
        same = c.loop-index.invariant.same;
        rests = c.loop-index.invariant.rests;
      })
]

pub returns-clause-taken : goal.returns-clause-taken
returns-clause-taken g c = rw (sym (take_all c.loop-index.index c.args.parents.now (omega arith))) c.loop-index.invariant.taken
