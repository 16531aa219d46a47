-- No statement stands before it.
use Rattle.body_changes.proofs.kinds.statements.turned.Goals as goal

pub returns-in_default-clause-none : goal.returns-in_default-clause-none
returns-in_default-clause-none c =
    λ start code m.
    c.in_default.ensures.none m.before
    (record { own_gives = m.gives; last = m.last; right_before = m.right_before; is = m.is; gives = m.before_gives })
