-- By the tree, and its type.
use Rattle.std.proofs.Common.{refl, sym, ◌∙◌}
use Rattle.std.specs.Prelude.{Some, None}
use Rattle.std.proofs.lemmas.Bool.{false≢true}
use Rattle.body_rewrites.proofs.OwnFindLemmas.{tree_told}
use Rattle.body_rewrites.proofs.WrapFindLemmas.{no_room, no_tree, no_value}
use Rattle.body_rewrites.proofs.own.wrap.find.Goals as goal

pub returns-then-not-has_room : goal.returns-then-not-has_room
returns-then-not-has_room c = λ context operators trees blocks.
    no_room context operators c.args.wrap c.args.at (λ room.
    false≢true (sym c.if-not-has_room.true ∙ c.has_room.ensures.only operators blocks room))

pub returns-in_default : goal.returns-in_default
returns-in_default c = λ context operators trees blocks.
    no_tree context operators c.args.wrap c.args.at
    (tree_told c.args.trees.now c.args.at None (sym c.in_default.is ∙ c.tree_at.ensures) context operators trees)

pub returns-in_default-value_of : goal.returns-in_default-value_of
returns-in_default-value_of c = λ context operators trees blocks.
    no_value context operators c.args.wrap c.args.at c.in-Some.tree
    (tree_told c.args.trees.now c.args.at (Some c.in-Some.tree) (sym c.in-Some.is ∙ c.tree_at.ensures) context operators trees)
    (sym c.in_default-value_of.is ∙ c.value_of.ensures)

pub returns : goal.returns
returns c = λ context operators trees blocks.
    let has = tree_told c.args.trees.now c.args.at (Some c.in-Some.tree) (sym c.in-Some.is ∙ c.tree_at.ensures) context operators trees in
    (refl, c.has_room.ensures.same c.if-not-has_room.false operators blocks, c.in-Some.tree.gives, sym c.value_of.ensures ∙ c.in-Some-value_of.is, has.is)
