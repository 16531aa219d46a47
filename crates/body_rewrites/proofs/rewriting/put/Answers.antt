-- What is put is a change that may stand there.
use Rattle.std.proofs.Common.{◌+◌, ◌∙◌, sym, subst}
use Rattle.std.specs.List.{All}
use Rattle.body_splices.specs.Splice.{IsRangeIn, IsPieceIn, AppendsSpliced}
use Rattle.body_rewrites.specs.Places.{context_of}
use Rattle.body_rewrites.proofs.MadeLemmas.{range_is_in, on_ok}
use Rattle.body_rewrites.proofs.rewriting.put.Goals as goal

pub splice-requires-clause-range : goal.splice-requires-clause-range
splice-requires-clause-range c =
    let given = c.requires.change in
    subst (λ k. IsRangeIn c.args.body.now.operators.now k (c.args.at + 1)) (sym given.written.start_is)
    (range_is_in (context_of c.args.body.now) c.args.input.now c.args.body.now.operators.now c.args.at given.change c.requires.body given.inside given.may)

pub splice-requires-clause-pieces : goal.splice-requires-clause-pieces
splice-requires-clause-pieces c =
    let given = c.requires.change in
    let range = range_is_in (context_of c.args.body.now) c.args.input.now c.args.body.now.operators.now c.args.at given.change c.requires.body given.inside
    given.may in
    subst (All (IsPieceIn c.args.body.now.operators.now)) (sym (c.deref.ensures.0 ∙ given.written.pieces_are)) (given.may.within given.word range.inside)

pub returns-clause-put : goal.returns-clause-put
returns-clause-put c =
    on_ok c.splice.result _ _ (λ spliced change word written may.
    c.changed_bodies_do_as_before.ensures (context_of c.args.body.now) c.args.input.now c.args.body.now.operators.now c.args.at change word
    c.args.newfunc.now c.splice.new.newfunc c.requires.body c.requires.change.inside may
    (subst (λ k. AppendsSpliced c.args.input.now c.args.body.now.operators.now k (c.args.at + 1) (change.pieces word) c.args.newfunc.now c.splice.new.newfunc)
    written.start_is
    (subst (λ ps. AppendsSpliced c.args.input.now c.args.body.now.operators.now c.args.code.now.start (c.args.at + 1) ps c.args.newfunc.now
    c.splice.new.newfunc) (c.deref.ensures.0 ∙ written.pieces_are) spliced))) c.splice.ensures.spliced
