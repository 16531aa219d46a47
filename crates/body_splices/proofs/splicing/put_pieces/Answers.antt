-- Piece by piece.
use Rattle.std.proofs.Common.{◌∙◌}
use Rattle.body_splices.specs.OwnBytes.{own_bytes}
use Rattle.body_splices.proofs.PieceLemmas.{none_put, one_more, all_put, on_error}
use Rattle.body_splices.proofs.splicing.put_pieces.Goals as goal

pub loop-i-init : goal.loop-i-init
loop-i-init c = none_put (own_bytes c.args.input.now c.args.operators.now) c.args.pieces.now c.args.sink.now

pub returns-in_err-put_piece-clause-err : goal.returns-in_err-put_piece-clause-err
returns-in_err-put_piece-clause-err c = on_error c.from_residual.result (_, c.in_err-put_piece.ensures.err ∙ c.loop-i.invariant.grown)

pub loop-i-preserved : goal.loop-i-preserved
loop-i-preserved c =
    one_more (own_bytes c.args.input.now c.args.operators.now) c.args.pieces.now c.loop-i.i c.index-pieces-i.result c.args.sink.now c.loop-i.sink
    c.put_piece.new.sink c.loop-i-test.true c.index-pieces-i.is c.loop-i.invariant c.in_ok-put_piece.ensures.ok

pub returns-clause-ok : goal.returns-clause-ok
returns-clause-ok c =
    all_put (own_bytes c.args.input.now c.args.operators.now) c.args.pieces.now c.loop-i.i c.args.sink.now c.loop-i.sink c.loop-i-test.false
    c.loop-i.invariant
