-- By the tree, and what stands behind it.
use Rattle.std.proofs.Common.{sym, ◌∙◌}
use Rattle.std.specs.Prelude.{Some, None}
use Rattle.std.proofs.lemmas.Bool.{false≢true}
use Rattle.body_rewrites.proofs.OwnFindLemmas.{tree_told}
use Rattle.body_rewrites.proofs.FlowFindLemmas.{none_asked, asked_type, is_asked}
use Rattle.body_rewrites.proofs.own.conditions.asked.Goals as goal

pub returns-in_default-clause-none : goal.returns-in_default-clause-none
returns-in_default-clause-none c = λ context trees.
    none_asked context c.args.operators.now c.args.last c.args.behind
    (tree_told c.args.trees.now c.args.last None (sym c.in_default.is ∙ c.tree_at.ensures) context c.args.operators.now trees)

pub returns-then-not-is_i32-clause-none : goal.returns-then-not-is_i32-clause-none
returns-then-not-is_i32-clause-none c = λ context trees start a.
    false≢true (sym c.if-not-is_i32.true
    ∙ c.is_i32.ensures.1
    (asked_type context c.args.operators.now c.args.last c.args.behind c.in-Some.tree
    (tree_told c.args.trees.now c.args.last (Some c.in-Some.tree) (sym c.in-Some.is ∙ c.tree_at.ensures) context c.args.operators.now trees) start a))

pub returns-clause-some : goal.returns-clause-some
returns-clause-some c = λ context trees.
    is_asked context c.args.operators.now c.args.last c.args.behind c.in-Some.tree
    (tree_told c.args.trees.now c.args.last (Some c.in-Some.tree) (sym c.in-Some.is ∙ c.tree_at.ensures) context c.args.operators.now trees)
    (c.is_i32.ensures.0 c.if-not-is_i32.false) (c.has_condition.ensures.same c.if-not-has_condition.false)
