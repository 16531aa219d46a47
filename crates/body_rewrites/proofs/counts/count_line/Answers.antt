-- The line makes nothing.
use Rattle.body_rewrites.specs.Asking.{rewrite_of}
use Rattle.body_rewrites.specs.Places.{context_of}
use Rattle.body_rewrites.proofs.CountingLemmas.{counts_never}
use Rattle.body_rewrites.proofs.ListingLemmas.{line_nothing}
use Rattle.body_rewrites.proofs.counts.count_line.Goals as goal

pub returns-in_default : goal.returns-in_default
returns-in_default c =
    let asked = c.args.asked.now in
    let none = rw c.in_default.is at c.growth_here.ensures.none in
    counts_never (context_of c.args.body.now) c.args.body.now.operators.now (rewrite_of c.args.here.at asked) c.args.counts.now
    (line_nothing (context_of c.args.body.now) c.args.body.now.operators.now c.args.here.at asked.number asked.line c.requires.asked.line none)
