-- None is drawn only where none could be.
use Rattle.body_changes.proofs.kinds.drawn.drawn.Goals as goal

pub returns-clause-none : goal.returns-clause-none
returns-clause-none c = (rw c.in-None.is at c.value_instead.ensures.none) c.args.most
