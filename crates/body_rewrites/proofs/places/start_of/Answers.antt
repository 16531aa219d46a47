-- The last one that is kept, where there is one.
use Rattle.std.proofs.Common.{sym}
use Rattle.body_rewrites.proofs.CodeLemmas.{last_begins, none_begins}
use Rattle.body_rewrites.proofs.places.start_of.Goals as goal

pub returns-in-Some : goal.returns-in-Some
returns-in-Some c = last_begins c.args.starts.now c.args.end c.in-Some.start.now (sym c.in-Some.ensures.value)

pub returns-in-None : goal.returns-in-None
returns-in-None c = none_begins c.args.starts.now c.args.end (sym c.in-None.ensures.value)
