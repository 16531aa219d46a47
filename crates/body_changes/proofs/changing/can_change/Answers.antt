-- The unit of the operator, and whether anything is made of it.
use Rattle.std.proofs.lemmas.Bool.{false≢true}
use Rattle.body_changes.proofs.ChangingLemmas.{changes_here, is_place, no_unit}
use Rattle.body_changes.proofs.changing.can_change.Goals as goal

pub returns-in_default : goal.returns-in_default
returns-in_default c = (
  λ f. absurd (false≢true f),
  λ k. absurd (no_unit c.args.body.now c.requires.body c.args.at c.requires.inside c.in_default.is c.args.words.now c.args.change k),
)

pub makes_new-requires : goal.makes_new-requires
makes_new-requires c = is_place c.args.body.now c.requires.body c.args.at c.requires.inside c.in-Some.unit c.in-Some.is

pub returns : goal.returns
returns c =
    changes_here c.args.body.now c.requires.body c.args.at c.requires.inside c.in-Some.unit
    (is_place c.args.body.now c.requires.body c.args.at c.requires.inside c.in-Some.unit c.in-Some.is) c.args.words.now c.args.change c.makes_new.result
    (c.makes_new.ensures c.args.body.now.most c.requires.body.some)
