-- What makes something fits.
use Rattle.std.proofs.Common.{sym, ◌∙◌}
use Rattle.body_rewrites.specs.Places.{context_of}
use Rattle.body_rewrites.proofs.RootLemmas.{unfit}
use Rattle.body_rewrites.proofs.line_growth.growth_here.Goals as goal

pub returns-then-not-fits-clause-none : goal.returns-then-not-fits-clause-none
returns-then-not-fits-clause-none c =
    unfit (context_of c.args.body.now) c.args.body.now.operators.now c.args.here c.requires.here c.args.asked.now c.requires.asked
    (sym c.fits.ensures ∙ c.if-not-fits.true)
