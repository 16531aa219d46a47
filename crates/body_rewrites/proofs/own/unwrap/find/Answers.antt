-- By the tree right before what is behind it.
use Rattle.std.proofs.Common.{◌≡◌, ◌+◌, ◌-◌, sym, subst, ◌∙◌, arith}
use Rattle.std.specs.Prelude.{Some, None, length}
use Rattle.body_rewrites.specs.Own.{IsWrapped}
use Rattle.body_rewrites.specs.OwnSites.{IsWrapRound}
use Rattle.body_rewrites.proofs.OwnFindLemmas.{tree_told}
use Rattle.body_rewrites.proofs.WrapFindLemmas.{last_so, no_inner, no_round, is_round}
use Rattle.body_rewrites.proofs.own.unwrap.find.Goals as goal

pub returns-in_default : goal.returns-in_default
returns-in_default c = λ context trees.
    no_inner context c.args.operators.now c.args.wrap c.args.at (c.args.at + 1 - length c.back-behind.result.now - 1)
    (last_so c.args.wrap c.args.at c.back-behind.result.now c.back-behind.ensures c.if-at-behind.false)
    (tree_told c.args.trees.now (c.args.at + 1 - length c.back-behind.result.now - 1) None (sym c.in_default.is ∙ c.tree_at.ensures) context
    c.args.operators.now trees)

pub returns-in_default-start_of : goal.returns-in_default-start_of
returns-in_default-start_of c = λ context trees.
    let last = c.args.at + 1 - length c.back-behind.result.now - 1 in
    let ends : last + 1 ≡ c.args.at + 1 - length c.back-behind.result.now = omega (arith, c.if-at-behind.false) in
    no_round context c.args.operators.now c.args.wrap c.args.at last c.in-Some.tree
    (last_so c.args.wrap c.args.at c.back-behind.result.now c.back-behind.ensures c.if-at-behind.false)
    (tree_told c.args.trees.now last (Some c.in-Some.tree) (sym c.in-Some.is ∙ c.tree_at.ensures) context c.args.operators.now trees)
    (λ start round. c.in_default-start_of.ensures.none start (subst (λ k. IsWrapRound c.args.operators.now c.args.wrap c.in-Some.tree k start) ends round))

pub returns : goal.returns
returns c = λ context trees.
    let last = c.args.at + 1 - length c.back-behind.result.now - 1 in
    let ends : last + 1 ≡ c.args.at + 1 - length c.back-behind.result.now = omega (arith, c.if-at-behind.false) in
    subst (λ k. IsWrapped context c.args.operators.now c.args.wrap c.in-Some-start_of.start c.args.at c.in-Some.tree.start k) ends
    (is_round context c.args.operators.now c.args.wrap c.args.at last c.in-Some-start_of.start c.in-Some.tree
    (last_so c.args.wrap c.args.at c.back-behind.result.now c.back-behind.ensures c.if-at-behind.false)
    (tree_told c.args.trees.now last (Some c.in-Some.tree) (sym c.in-Some.is ∙ c.tree_at.ensures) context c.args.operators.now trees)
    c.if-at-operators-2.false
    (subst (λ k. IsWrapRound c.args.operators.now c.args.wrap c.in-Some.tree k c.in-Some-start_of.start) (sym ends) c.in-Some-start_of.ensures.some))
