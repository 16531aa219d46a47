-- By the tree, and the number of globals.
use Rattle.std.proofs.Common.{sym, ◌∙◌}
use Rattle.std.specs.Prelude.{Some, None}
use Rattle.body_rewrites.proofs.OwnFindLemmas.{tree_told, no_global, no_number, is_through}
use Rattle.body_rewrites.proofs.own.through_global.find.Goals as goal

pub returns-in_default : goal.returns-in_default
returns-in_default c = λ context operators same trees.
    no_global context operators c.args.at (tree_told c.args.trees.now c.args.at None (sym c.in_default.is ∙ c.tree_at.ensures) context operators trees)

pub returns-then-not-is_number : goal.returns-then-not-is_number
returns-then-not-is_number c = λ context operators same trees.
    no_number context operators c.args.at c.in-Some.tree
    (tree_told c.args.trees.now c.args.at (Some c.in-Some.tree) (sym c.in-Some.is ∙ c.tree_at.ensures) context operators trees) c.if-not-is_number.ensures

pub returns : goal.returns
returns c = λ context operators same trees.
    is_through context operators c.args.info.now c.args.at c.get_global_count-count.result c.in-Some.tree
    (tree_told c.args.trees.now c.args.at (Some c.in-Some.tree) (sym c.in-Some.is ∙ c.tree_at.ensures) context operators trees) c.if-not-is_number.ensures
    same c.if-count-gt4294967295.false c.get_global_count-count.ensures
