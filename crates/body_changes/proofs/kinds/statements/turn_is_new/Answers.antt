-- The two statements are compared, where there are two.
use Rattle.std.proofs.lemmas.Bool.{false≢true}
use Rattle.body_changes.proofs.NewLemmas.{turn_decided}
use Rattle.body_changes.proofs.kinds.statements.turn_is_new.Goals as goal

pub returns-in_default : goal.returns-in_default
returns-in_default c = λ most words. (
  λ f. absurd (false≢true f),
  λ k.
      let m = k.2 in
      absurd ((rw c.in_default.is at c.statement_before.ensures.none) m.before
      (record { own_gives = m.gives; last = m.last; right_before = m.right_before; is = m.is; gives = m.before_gives })),
)

pub returns : goal.returns
returns c = λ most words.
    turn_decided c.args.place.now c.requires c.in-Some.before (rw c.in-Some.is at c.statement_before.ensures.some) c.are_alike.result most words
    c.are_alike.ensures
