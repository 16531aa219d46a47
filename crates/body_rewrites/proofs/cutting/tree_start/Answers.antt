-- By what the list has.
use Rattle.std.proofs.Common.{sym, ◌∙◌}
use Rattle.body_rewrites.proofs.CutLemmas.{start_some, start_none}
use Rattle.body_rewrites.proofs.cutting.tree_start.Goals as goal

pub returns-in-Some : goal.returns-in-Some
returns-in-Some c = start_some c.args.trees.now c.args.at c.in-Some.tree (sym c.tree_at.ensures ∙ c.in-Some.is)

pub returns-in-None : goal.returns-in-None
returns-in-None c = start_none c.args.trees.now c.args.at (sym c.tree_at.ensures ∙ c.in-None.is)
