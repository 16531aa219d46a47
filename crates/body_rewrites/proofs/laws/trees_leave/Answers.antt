use Rattle.body_rewrites.proofs.LeavesLemmas.{trees_leave}
use Rattle.body_rewrites.proofs.laws.trees_leave.Goals as goal

pub returns : goal.returns
returns c = trees_leave
