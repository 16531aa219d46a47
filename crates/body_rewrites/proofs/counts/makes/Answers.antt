-- The line does one thing to the number of operators.
use Rattle.body_rewrites.specs.Asking.{rewrite_of}
use Rattle.body_rewrites.specs.Places.{context_of}
use Rattle.body_rewrites.proofs.ListingLemmas.{growth_one, line_nothing, line_has_growth}
use Rattle.body_rewrites.proofs.counts.makes.Goals as goal

pub returns-in-Some-clause-only : goal.returns-in-Some-clause-only
returns-in-Some-clause-only c = λ has.
    let context = context_of c.args.body.now in
    let operators = c.args.body.now.operators.now in
    let asked = c.args.asked.now in
    let grows = rw c.in-Some.is at c.growth_here.ensures.some in
    c.same_growth.ensures.1 (growth_one context operators c.one_change.ensures (rewrite_of c.args.here.at asked) c.in-Some.other c.args.growth
    (line_has_growth context operators c.args.here.at asked.number asked.line c.requires.asked.line c.in-Some.other grows) has)

pub returns-in-None-clause-only : goal.returns-in-None-clause-only
returns-in-None-clause-only c = λ has.
    let asked = c.args.asked.now in
    let none = rw c.in-None.is at c.growth_here.ensures.none in
    absurd (line_nothing (context_of c.args.body.now) c.args.body.now.operators.now c.args.here.at asked.number asked.line c.requires.asked.line none
    (has.change, has.made))
