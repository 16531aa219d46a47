-- By the tree right before the drop.
use Rattle.std.proofs.Common.{◌-◌, refl, sym, ◌∙◌, arith}
use Rattle.std.specs.Prelude.{Some, None}
use Rattle.body_rewrites.proofs.OwnFindLemmas.{tree_told, not_forgotten, it_writes, it_traps, is_forgotten}
use Rattle.body_rewrites.proofs.own.forget.find.Goals as goal

pub returns-in_default : goal.returns-in_default
returns-in_default c = λ context trees.
    not_forgotten context c.args.operators.now c.args.at (c.args.at - 1) (omega (arith, c.if-at-eq0.false))
    (tree_told c.args.trees.now (c.args.at - 1) None (sym c.in_default.is ∙ c.tree_at.ensures) context c.args.operators.now trees)

pub returns-then-tree : goal.returns-then-tree
returns-then-tree c = λ context trees.
    it_writes context c.args.operators.now c.args.at (c.args.at - 1) c.in-Some.tree (omega (arith, c.if-at-eq0.false))
    (tree_told c.args.trees.now (c.args.at - 1) (Some c.in-Some.tree) (sym c.in-Some.is ∙ c.tree_at.ensures) context c.args.operators.now trees)
    c.if-tree.true

pub returns-then-tree-2 : goal.returns-then-tree-2
returns-then-tree-2 c = λ context trees.
    it_traps context c.args.operators.now c.args.at (c.args.at - 1) c.in-Some.tree (omega (arith, c.if-at-eq0.false))
    (tree_told c.args.trees.now (c.args.at - 1) (Some c.in-Some.tree) (sym c.in-Some.is ∙ c.tree_at.ensures) context c.args.operators.now trees)
    c.if-tree-2.true

pub returns : goal.returns
returns c = λ context trees.
    is_forgotten context c.args.operators.now c.args.at (c.args.at - 1) c.in-Some.tree (omega (arith, c.if-at-eq0.false))
    (tree_told c.args.trees.now (c.args.at - 1) (Some c.in-Some.tree) (sym c.in-Some.is ∙ c.tree_at.ensures) context c.args.operators.now trees)
    (c.if-not-is_bare_at.ensures.0 refl) c.if-tree.false c.if-tree-2.false
