-- By either of them.
use Rattle.std.proofs.Common.{sym, ◌∙◌}
use Rattle.std.proofs.lemmas.Bool.{false≢true}
use Rattle.body_rewrites.proofs.FlowFindLemmas.{same_types, valueless, are_leaves}
use Rattle.body_rewrites.proofs.own.leaves.leaves_at.Goals as goal

pub returns-in_default-clause-none : goal.returns-in_default-clause-none
returns-in_default-clause-none c = λ context trees v l. c.in_default.ensures.none context trees l.type l.one

pub returns-in_default-leaf_at-clause-none : goal.returns-in_default-leaf_at-clause-none
returns-in_default-leaf_at-clause-none c = λ context trees v l. c.in_default-leaf_at.ensures.none context trees l.type l.other

pub returns-then-not-is_same-clause-none : goal.returns-then-not-is_same-clause-none
returns-then-not-is_same-clause-none c = λ context trees v l.
    false≢true (sym c.if-not-is_same.true
    ∙ c.is_same.ensures.1 (same_types context c.args.operators.now c.args.first c.args.second c.in-Some.one c.in-Some-leaf_at.other
    (c.in-Some.ensures.some context trees) (c.in-Some-leaf_at.ensures.some context trees) v l))

pub returns-in_default-value_of-clause-none : goal.returns-in_default-value_of-clause-none
returns-in_default-value_of-clause-none c = λ context trees.
    valueless context c.args.operators.now c.args.first c.args.second c.in-Some.one (c.in-Some.ensures.some context trees)
    (sym c.in_default-value_of.is ∙ c.value_of.ensures)

pub returns-clause-some : goal.returns-clause-some
returns-clause-some c = λ context trees.
    are_leaves context c.args.operators.now c.args.first c.args.second c.in-Some.one c.in-Some-leaf_at.other c.in-Some-value_of.value
    (c.is_same.ensures.0 c.if-not-is_same.false)
    (sym c.in-Some-value_of.is ∙ c.value_of.ensures) (c.in-Some.ensures.some context trees) (c.in-Some-leaf_at.ensures.some context trees)
