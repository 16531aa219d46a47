-- By what stands there.
use Rattle.std.proofs.Common.{sym, ◌∙◌, arith}
use Rattle.std.proofs.lemmas.Bool.{false≢true}
use Rattle.body_rewrites.proofs.DifferingLemmas.{new_is, new_there}
use Rattle.body_rewrites.proofs.differing.behind_new.Goals as goal

pub returns-then-not-has_instr : goal.returns-then-not-has_instr
returns-then-not-has_instr c = λ rest e.
    let there = new_there c.args.operators.now c.args.at c.args.end c.args.instr.now rest (omega (arith, c.if-at-end.false)) e in
    absurd (false≢true (sym c.if-not-has_instr.true ∙ c.has_instr.ensures.only there))

pub returns : goal.returns
returns c = (
  omega arith,
  omega (arith, c.if-at-end.false),
  new_is c.args.operators.now c.args.at c.args.instr.now (c.has_instr.ensures.same c.if-not-has_instr.false),
)
