-- By the tree right before the drop, and the operator right before that.
use Rattle.std.proofs.Common.{◌-◌, ◌≡◌, sym, subst, ◌∙◌, arith}
use Rattle.std.specs.Prelude.{Some, None}
use Rattle.std.proofs.lemmas.Bool.{false≢true}
use Rattle.body_rewrites.specs.Own.{HasLeave}
use Rattle.body_rewrites.proofs.OwnFindLemmas.{tree_told}
use Rattle.body_rewrites.proofs.FlowFindLemmas.{no_dead, dead_tree, dead_begins}
use Rattle.body_rewrites.proofs.own.drop_dead.find.Goals as goal

pub returns-in_default : goal.returns-in_default
returns-in_default c = λ context trees.
    no_dead context c.args.operators.now c.args.at
    (dead_tree context c.args.operators.now c.args.at (c.args.at - 1) (omega (arith, c.if-at-eq0.false))
    (tree_told c.args.trees.now (c.args.at - 1) None (sym c.in_default.is ∙ c.tree_at.ensures) context c.args.operators.now trees))

pub returns-then-tree-eq0 : goal.returns-then-tree-eq0
returns-then-tree-eq0 c = λ context trees.
    no_dead context c.args.operators.now c.args.at (λ start h.
    let begins = dead_begins context c.args.operators.now c.args.at (c.args.at - 1) c.in-Some.tree (omega (arith, c.if-at-eq0.false))
    (tree_told c.args.trees.now (c.args.at - 1) (Some c.in-Some.tree) (sym c.in-Some.is ∙ c.tree_at.ensures) context c.args.operators.now trees) start h in
    let place = h.place_is in
    absurd (omega (arith, begins, place, c.if-tree-eq0.true)))

pub returns-then-not-has_leave : goal.returns-then-not-has_leave
returns-then-not-has_leave c = λ context trees.
    no_dead context c.args.operators.now c.args.at (λ start h.
    let begins = dead_begins context c.args.operators.now c.args.at (c.args.at - 1) c.in-Some.tree (omega (arith, c.if-at-eq0.false))
    (tree_told c.args.trees.now (c.args.at - 1) (Some c.in-Some.tree) (sym c.in-Some.is ∙ c.tree_at.ensures) context c.args.operators.now trees) start h in
    let place = h.place_is in
    let same : h.place ≡ c.in-Some.tree.start - 1 = omega (arith, begins, place) in
    false≢true (sym c.if-not-has_leave.true ∙ c.has_leave.ensures.only (subst (λ k. HasLeave c.args.operators.now k) same h.leave)))

pub returns : goal.returns
returns c = λ context trees.
    let has = tree_told c.args.trees.now (c.args.at - 1) (Some c.in-Some.tree) (sym c.in-Some.is ∙ c.tree_at.ensures) context c.args.operators.now trees in
    record {
      dropped = c.is_bare_at.ensures.0 c.if-not-is_bare_at.false;
      last = c.args.at - 1;
      last_is = omega (arith, c.if-at-eq0.false);
      type = c.in-Some.tree.gives;
      tree = has.is;
      place = c.in-Some.tree.start - 1;
      place_is = omega (arith, c.if-tree-eq0.false);
      leave = c.has_leave.ensures.same c.if-not-has_leave.false;
    }
