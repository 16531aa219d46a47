-- Instruction by instruction.
use Rattle.std.proofs.Common.{sym, ◌∙◌, arith}
use Rattle.body_rewrites.proofs.MatchingLemmas.{same_length, one_more_same, have_same_at}
use Rattle.body_rewrites.proofs.matching.are_same.Goals as goal

pub returns-then-other-count-clause-only : goal.returns-then-other-count-clause-only
returns-then-other-count-clause-only c = λ h.
    let e = same_length c.args.operators.now c.args.one c.args.other c.requires.one.1 c.requires.other.1 h in
    absurd (omega (arith, e, c.if-other-count.true))

pub returns-then-not-have_same-clause-only : goal.returns-then-not-have_same-clause-only
returns-then-not-have_same-clause-only c = λ h.
    let there = have_same_at c.args.operators.now c.args.one c.args.other c.loop-i.i c.requires.one.1 c.requires.other.1 c.loop-i-test.true h in
    let e = c.have_same.ensures.only there in
    sym c.if-not-have_same.true ∙ e

pub loop-i-preserved : goal.loop-i-preserved
loop-i-preserved c =
    one_more_same c.args.operators.now c.args.one.0 c.args.other.0 c.loop-i.i c.loop-i.invariant (c.have_same.ensures.same c.if-not-have_same.false)
