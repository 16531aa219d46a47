-- By the tree.
use Rattle.std.proofs.Common.{sym, ◌∙◌}
use Rattle.body_rewrites.proofs.OwnFindLemmas.{tree_told, no_nop}
use Rattle.body_rewrites.proofs.own.with_nop.find.Goals as goal
use Rattle.std.specs.Prelude.{Some, None}

pub returns-in_default : goal.returns-in_default
returns-in_default c = λ context operators trees.
    no_nop context operators c.args.at (tree_told c.args.trees.now c.args.at None (sym c.in_default.is ∙ c.tree_at.ensures) context operators trees)

pub returns : goal.returns
returns c = λ context operators trees.
    let has = tree_told c.args.trees.now c.args.at (Some c.in-Some.tree) (sym c.in-Some.is ∙ c.tree_at.ensures) context operators trees in
    (c.in-Some.tree.gives, has.is)
