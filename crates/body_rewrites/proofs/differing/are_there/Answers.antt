-- Piece by piece.
use Rattle.std.proofs.Common.{◌∷◌, ◌+◌, drop, ap, sym, ◌∙◌, arith}
use Rattle.std.proofs.lemmas.Bool.{eqb-true, eq-eqb}
use Rattle.body_rewrites.proofs.AllAlikeLemmas.{drop_one}
use Rattle.body_rewrites.proofs.DifferingLemmas.{instructions_from, one_more_there, no_more_there, all_there, ends_there}
use Rattle.body_rewrites.proofs.differing.are_there.Goals as goal

pub loop-i-init : goal.loop-i-init
loop-i-init c = record { before = omega arith; behind = c.requires.range.0; same = λ h. h; only = λ h. h }

pub behind_piece-requires-clause-code : goal.behind_piece-requires-clause-code
behind_piece-requires-clause-code c =
    let so = c.loop-i.invariant in
    instructions_from c.args.operators.now c.args.start c.loop-i.at c.args.end so.before so.behind c.requires.code

pub returns-in_default-clause-only : goal.returns-in_default-clause-only
returns-in_default-clause-only c = λ h.
    let pieces = c.args.pieces.now in
    let p = c.index-pieces-i.result in
    let first = drop_one pieces c.loop-i.i p c.loop-i-test.true ∙ ap (λ q. q ∷ drop (c.loop-i.i + 1) pieces) (sym c.index-pieces-i.is) in
    absurd (no_more_there c.args.operators.now c.args.start c.args.end pieces c.loop-i.i c.loop-i.at p first c.loop-i.invariant c.in_default.ensures h)

pub loop-i-preserved : goal.loop-i-preserved
loop-i-preserved c =
    let pieces = c.args.pieces.now in
    let p = c.index-pieces-i.result in
    let first = drop_one pieces c.loop-i.i p c.loop-i-test.true ∙ ap (λ q. q ∷ drop (c.loop-i.i + 1) pieces) (sym c.index-pieces-i.is) in
    one_more_there c.args.operators.now c.args.start c.args.end pieces c.loop-i.i c.loop-i.at p first c.loop-i.invariant c.in-Some.next c.in-Some.ensures

pub returns-clause-same : goal.returns-clause-same
returns-clause-same c = λ e.
    all_there c.args.operators.now c.args.start c.args.end c.args.pieces.now c.loop-i.i c.loop-i.at (omega (arith, c.loop-i-test.false)) c.loop-i.invariant
    (eqb-true c.loop-i.at c.args.end e)

pub returns-clause-only : goal.returns-clause-only
returns-clause-only c = λ h.
    eq-eqb c.loop-i.at c.args.end
    (ends_there c.args.operators.now c.args.start c.args.end c.args.pieces.now c.loop-i.i c.loop-i.at c.requires.range.1
    (omega (arith, c.loop-i-test.false)) c.loop-i.invariant h)
