use Rattle.std.proofs.Common.{sym, ap}
use Rattle.peephole_graphs.specs.ForestText.{branch}
use Rattle.peephole_graphs.proofs.text.ForestWalk.{none_later, some_later}
use Rattle.peephole_graphs.proofs.forest_text.branch.Goals as goal

pub returns-then-is_empty : goal.returns-then-is_empty
unfolding lib.Utf8.encode
returns-then-is_empty c = sym (ap branch (none_later c.args.later.now c.is_empty.result c.is_empty.ensures c.if-is_empty.true))

pub returns-else-is_empty : goal.returns-else-is_empty
unfolding lib.Utf8.encode
returns-else-is_empty c = sym (ap branch (some_later c.args.later.now c.is_empty.result c.is_empty.ensures c.if-is_empty.false))
