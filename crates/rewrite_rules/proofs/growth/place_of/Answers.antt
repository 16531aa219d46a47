use Rattle.std.proofs.Common.{arith}
use Rattle.rewrite_rules.proofs.GrowingLemmas.{found}
use Rattle.rewrite_rules.proofs.growth.place_of.Goals as goal

pub returns-then-list-i-clause-some : goal.returns-then-list-i-clause-some
returns-then-list-i-clause-some c = found c.args.hole c.args.list.now c.loop-i.i (omega arith) c.if-list-i.true c.loop-i.invariant
