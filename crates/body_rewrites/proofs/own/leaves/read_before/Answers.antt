-- By the tree right before the operator.
use Rattle.std.proofs.Common.{◌-◌, sym, ◌∙◌, arith}
use Rattle.std.specs.Prelude.{Some, None}
use Rattle.std.proofs.lemmas.Bool.{false≢true}
use Rattle.body_rewrites.proofs.OwnFindLemmas.{tree_told}
use Rattle.body_rewrites.proofs.FlowFindLemmas.{none_read, what_is_read, is_read}
use Rattle.body_rewrites.proofs.own.leaves.read_before.Goals as goal

pub returns-in_default-clause-none : goal.returns-in_default-clause-none
returns-in_default-clause-none c = λ context operators trees.
    none_read context operators (c.args.end - 1) c.args.end (omega (arith, c.if-end-eq0.false))
    (tree_told c.args.trees.now (c.args.end - 1) None (sym c.in_default.is ∙ c.tree_at.ensures) context operators trees)

pub returns-then-not-is_i32-clause-none : goal.returns-then-not-is_i32-clause-none
returns-then-not-is_i32-clause-none c = λ context operators trees start r.
    false≢true (sym c.if-not-is_i32.true
    ∙ c.is_i32.ensures.1
    (what_is_read context operators (c.args.end - 1) c.args.end c.in-Some.tree (omega (arith, c.if-end-eq0.false))
    (tree_told c.args.trees.now (c.args.end - 1) (Some c.in-Some.tree) (sym c.in-Some.is ∙ c.tree_at.ensures) context operators trees) start r).0)

pub returns-then-tree-clause-none : goal.returns-then-tree-clause-none
returns-then-tree-clause-none c = λ context operators trees start r.
    false≢true (sym
    (what_is_read context operators (c.args.end - 1) c.args.end c.in-Some.tree (omega (arith, c.if-end-eq0.false))
    (tree_told c.args.trees.now (c.args.end - 1) (Some c.in-Some.tree) (sym c.in-Some.is ∙ c.tree_at.ensures) context operators trees) start r).1
    ∙ c.if-tree.true)

pub returns-clause-some : goal.returns-clause-some
returns-clause-some c = λ context operators trees.
    is_read context operators (c.args.end - 1) c.args.end c.in-Some.tree (omega (arith, c.if-end-eq0.false))
    (tree_told c.args.trees.now (c.args.end - 1) (Some c.in-Some.tree) (sym c.in-Some.is ∙ c.tree_at.ensures) context operators trees)
    (c.is_i32.ensures.0 c.if-not-is_i32.false) c.if-tree.false
