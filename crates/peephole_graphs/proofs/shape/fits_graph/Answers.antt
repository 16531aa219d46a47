use Rattle.std.proofs.Common.{refl, sym, subst, ◌∙◌}
use Rattle.peephole_graphs.specs.Shape.{IsFit}
use Rattle.peephole_graphs.proofs.shape.fits_graph.Goals as goal

pub returns-in-Fits : goal.returns-in-Fits
returns-in-Fits c = (λ h. subst IsFit (sym c.in-Fits.is ∙ c.judge_operator.ensures) tt, λ h. refl)

pub returns-in-Unfit : goal.returns-in-Unfit
returns-in-Unfit c = (λ h. absurd cc, λ h. absurd (subst IsFit (sym c.judge_operator.ensures ∙ c.in-Unfit.is) h))

pub returns-in-Unknown : goal.returns-in-Unknown
returns-in-Unknown c = (λ h. absurd cc, λ h. absurd (subst IsFit (sym c.judge_operator.ensures ∙ c.in-Unknown.is) h))
