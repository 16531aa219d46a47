-- By the instruction and its tree.
use Rattle.std.proofs.Common.{sym, ◌∙◌}
use Rattle.std.specs.Prelude.{Some, None}
use Rattle.body_rewrites.proofs.OwnFindLemmas.{tree_told}
use Rattle.body_rewrites.proofs.FlowFindLemmas.{no_leaf, leaf_begins, is_leaf_at}
use Rattle.body_rewrites.proofs.own.leaves.leaf_at.Goals as goal

pub returns-in_default-tree_at-clause-none : goal.returns-in_default-tree_at-clause-none
returns-in_default-tree_at-clause-none c = λ context trees t.
    no_leaf context c.args.operators.now c.args.at
    (tree_told c.args.trees.now c.args.at None (sym c.in_default-tree_at.is ∙ c.tree_at.ensures) context c.args.operators.now trees) t

pub returns-then-tree-at-clause-none : goal.returns-then-tree-at-clause-none
returns-then-tree-at-clause-none c = λ context trees t l.
    absurd (c.if-tree-at.true (leaf_begins context c.args.operators.now c.args.at c.in-Some-tree_at.tree
    (tree_told c.args.trees.now c.args.at (Some c.in-Some-tree_at.tree) (sym c.in-Some-tree_at.is ∙ c.tree_at.ensures) context c.args.operators.now trees) t l))

pub returns-clause-some : goal.returns-clause-some
returns-clause-some c = λ context trees.
    is_leaf_at context c.args.operators.now c.args.at c.in-Some.instr c.in-Some-tree_at.tree c.in-Some.ensures.some
    (sym c.is_leaf.ensures ∙ c.if-not-is_leaf.false)
    (tree_told c.args.trees.now c.args.at (Some c.in-Some-tree_at.tree) (sym c.in-Some-tree_at.is ∙ c.tree_at.ensures) context c.args.operators.now trees)
    c.if-tree-at.false
