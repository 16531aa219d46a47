-- The line makes nothing.
use Rattle.std.proofs.Common.{sym, ◌∙◌}
use Rattle.body_rewrites.specs.Asking.{rewrite_of}
use Rattle.body_rewrites.specs.Places.{context_of}
use Rattle.body_rewrites.proofs.ListingLemmas.{adds_nothing, line_nothing}
use Rattle.body_rewrites.proofs.RootLemmas.{unfit}
use Rattle.body_rewrites.proofs.listing.ask.Goals as goal

pub returns-then-not-fits : goal.returns-then-not-fits
returns-then-not-fits c =
    let asked = c.args.asked.now in
    let context = context_of c.args.body.now in
    let operators = c.args.body.now.operators.now in
    adds_nothing context operators (rewrite_of c.args.here.at asked) c.args.list.now.items
    (line_nothing context operators c.args.here.at asked.number asked.line c.requires.asked.line
    (unfit context operators c.args.here c.requires.here asked c.requires.asked (sym c.fits.ensures ∙ c.if-not-fits.true)))

pub returns-in-None : goal.returns-in-None
returns-in-None c =
    let asked = c.args.asked.now in
    let none = rw c.in-None.is at c.growth_here.ensures.none in
    adds_nothing (context_of c.args.body.now) c.args.body.now.operators.now (rewrite_of c.args.here.at asked) c.args.list.now.items
    (line_nothing (context_of c.args.body.now) c.args.body.now.operators.now c.args.here.at asked.number asked.line c.requires.asked.line none)
