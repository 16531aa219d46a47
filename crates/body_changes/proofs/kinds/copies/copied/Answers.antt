-- Where the code gives something else, it may not stand there.
use Rattle.std.proofs.Common.{sym, ◌∙◌}
use Rattle.std.proofs.lemmas.Bool.{false≢true}
use Rattle.body_changes.specs.Proposals.{context_at, operators_of}
use Rattle.body_changes.proofs.CopyLemmas.{copied_otherwise}
use Rattle.body_changes.proofs.kinds.copies.copied.Goals as goal

pub returns-then-not-copy_gives-clause-none : goal.returns-then-not-copy_gives-clause-none
returns-then-not-copy_gives-clause-none c = λ code made.
    let place = c.args.place.now in
    copied_otherwise (context_at place) (operators_of place) place.at place.unit c.requires.is place.copied.code.now place.copied.gives c.requires.copied
    (λ same. false≢true (sym c.if-not-copy_gives.true ∙ c.copy_gives.ensures.1 (made.some, same))) code made
