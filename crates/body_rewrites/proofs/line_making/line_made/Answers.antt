-- The line has one place before an operator.
use Rattle.std.proofs.Common.{sym, ◌∙◌}
use Rattle.std.proofs.lemmas.Bool.{false≢true}
use Rattle.body_rewrites.specs.Places.{context_of}
use Rattle.body_rewrites.proofs.LineMakingLemmas.{differs_there}
use Rattle.body_rewrites.proofs.line_making.line_made.Goals as goal

pub returns-then-not-changes-clause-none : goal.returns-then-not-changes-clause-none
returns-then-not-changes-clause-none c = λ change is.
    let found = rw c.in-Some.is at c.place_of.ensures.some in
    let differs = differs_there (context_of c.args.body.now) c.args.body.now.operators.now c.args.line.now c.args.at c.in-Some.place change found is in
    absurd (false≢true (sym c.if-not-changes.true ∙ c.changes.ensures.1 differs))
