-- The copy is compared, where it gives the same.
use Rattle.std.proofs.Common.{sym, ◌∙◌}
use Rattle.std.proofs.lemmas.Bool.{false≢true}
use Rattle.body_changes.specs.Kinds.{MakesCopy}
use Rattle.body_changes.specs.Proposals.{context_at, operators_of}
use Rattle.body_changes.proofs.CopyLemmas.{copied_otherwise}
use Rattle.body_changes.proofs.NewLemmas.{copy_decided, never}
use Rattle.body_changes.proofs.kinds.copies.copy_is_new.Goals as goal

pub returns-then-not-copy_gives : goal.returns-then-not-copy_gives
returns-then-not-copy_gives c =
    let place = c.args.place.now in (
      λ f. absurd (false≢true f),
      λ k. absurd (never place c.requires (MakesCopy place.copied.code.now) (λ code made. copied_otherwise (context_at place) (operators_of place) place.at
          place.unit c.requires.is place.copied.code.now place.copied.gives c.requires.copied
          (λ same. false≢true (sym c.if-not-copy_gives.true ∙ c.copy_gives.ensures.1 (made.some, same))) code made) k),
    )

pub returns : goal.returns
returns c = copy_decided c.args.place.now c.requires (c.copy_gives.ensures.0 c.if-not-copy_gives.false) c.are_these.result c.are_these.ensures
