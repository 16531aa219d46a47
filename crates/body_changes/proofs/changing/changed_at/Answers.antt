-- The unit of the operator, and what is made of it.
use Rattle.std.proofs.Common.{refl}
use Rattle.body_changes.proofs.ChangingLemmas.{is_found, is_place, no_unit, none_made}
use Rattle.body_changes.proofs.changing.changed_at.Goals as goal

pub returns-in_default-clause-none : goal.returns-in_default-clause-none
returns-in_default-clause-none c = λ changes.
    no_unit c.args.body.now c.requires.body c.args.at c.requires.inside c.in_default.is c.args.words.now c.args.change changes

pub made_of-requires-clause-place : goal.made_of-requires-clause-place
made_of-requires-clause-place c = is_place c.args.body.now c.requires.body c.args.at c.requires.inside c.in-Some.unit c.in-Some.is

pub returns-in-Some-2-clause-found : goal.returns-in-Some-2-clause-found
returns-in-Some-2-clause-found c = (
  refl,
  refl,
  is_found c.args.body.now c.requires.body c.args.at c.requires.inside c.in-Some.unit
      (is_place c.args.body.now c.requires.body c.args.at c.requires.inside c.in-Some.unit c.in-Some.is) c.args.words.now c.args.change
      (record { change = c.args.change; at = c.args.at; start = c.in-Some-2.field-0.start; code = c.in-Some-2.field-0.code }) refl refl
      (rw c.in-Some-2.is at c.in_ok-start.ensures.made) (rw c.in-Some-2.is at c.in_ok-start.ensures.new) (rw c.in-Some-2.is at c.in_ok-start.ensures.named),
)

pub returns-in-None-clause-none : goal.returns-in-None-clause-none
returns-in-None-clause-none c = λ changes.
    none_made c.args.body.now c.requires.body c.args.at c.requires.inside c.in-Some.unit
    (is_place c.args.body.now c.requires.body c.args.at c.requires.inside c.in-Some.unit c.in-Some.is) c.args.words.now c.args.change
    (rw c.in-None.is at c.in_ok-start.ensures.none) changes
