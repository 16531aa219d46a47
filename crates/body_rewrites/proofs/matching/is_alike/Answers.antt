-- By what the part is.
use Rattle.std.proofs.Common.{subst, sym, ◌∙◌}
use Rattle.std.proofs.lemmas.Bool.{eqb-true, eq-eqb}
use Rattle.body_rewrites.specs.Matching.{HasSomePart, IsAlike}
use Rattle.body_rewrites.proofs.AlikeLemmas.{hole_alike, alike_hole, constant_alike, alike_constant, others_alike}
use Rattle.body_rewrites.proofs.matching.is_alike.Goals as goal

pub returns-in-Hole-clause-same : goal.returns-in-Hole-clause-same
returns-in-Hole-clause-same c = λ h.
    subst (λ p. IsAlike c.args.operators.now p c.args.place c.args.operand c.args.numbers.now) (sym c.in-Hole.is)
    (hole_alike c.args.operators.now c.args.place c.args.operand c.in-Hole.field-0 c.args.numbers.now (c.have_same_code.ensures.same h))

pub returns-in-Hole-clause-only : goal.returns-in-Hole-clause-only
returns-in-Hole-clause-only c = λ h.
    c.have_same_code.ensures.only (alike_hole c.args.operators.now c.args.place c.args.operand c.in-Hole.field-0 c.args.numbers.now c.requires.operand
    (subst (λ p. IsAlike c.args.operators.now p c.args.place c.args.operand c.args.numbers.now) c.in-Hole.is h))

pub returns-in-Constant-clause-same : goal.returns-in-Constant-clause-same
returns-in-Constant-clause-same c = λ h.
    subst (λ p. IsAlike c.args.operators.now p c.args.place c.args.operand c.args.numbers.now) (sym c.in-Constant.is)
    (constant_alike c.args.operators.now c.in-Constant.t c.in-Constant.number c.args.place c.args.operand c.args.numbers.now
    (subst (λ p. HasSomePart c.args.operators.now p c.args.place) c.in-Constant.is c.requires.part)
    (sym c.number_at.ensures ∙ (eqb-true c.number_at.result c.value.result h ∙ c.value.ensures)))

pub returns-in-Constant-clause-only : goal.returns-in-Constant-clause-only
returns-in-Constant-clause-only c = λ h.
    let same = alike_constant c.args.operators.now c.in-Constant.t c.in-Constant.number c.args.place c.args.operand c.args.numbers.now
    (subst (λ p. HasSomePart c.args.operators.now p c.args.place) c.in-Constant.is c.requires.part)
    (subst (λ p. IsAlike c.args.operators.now p c.args.place c.args.operand c.args.numbers.now) c.in-Constant.is h) in
    eq-eqb c.number_at.result c.value.result (c.number_at.ensures ∙ (same ∙ sym c.value.ensures))

pub returns-in_default-clause-same : goal.returns-in_default-clause-same
returns-in_default-clause-same c = λ h.
    others_alike c.args.operators.now c.args.part c.args.place c.args.operand c.args.numbers.now c.in_default.not-Hole c.in_default.not-Constant
    c.requires.part
