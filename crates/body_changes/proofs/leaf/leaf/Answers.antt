-- The variable or the constant that the words name.
use Rattle.std.proofs.Common.{◌≡◌, inl, inr, Some, None, sym, ◌∙◌}
use Rattle.body_changes.specs.Goals.{context_for}
use Rattle.body_changes.proofs.ConstantLemmas.{constant_plain, drawable_told}
use Rattle.body_changes.proofs.LeafLemmas.{is_chosen}
use Rattle.body_changes.proofs.leaf.leaf.Goals as goal

pub returns-in-Some-clause-drawn : goal.returns-in-Some-clause-drawn
returns-in-Some-clause-drawn c = λ i h named.
    elim (is_chosen (context_for c.args.scope.now) c.args.wanted c.args.words c.variable.result
    (drawable_told c.args.scope.now.info.now c.args.wanted c.requires) c.variable.ensures.local c.variable.ensures.global c.variable.ensures.none i h named) [
      | inl e ↦ let same : Some c.in-Some.instr ≡ Some i = sym c.in-Some.is ∙ e in cc
      | inr n ↦ absurd (let no : Some c.in-Some.instr ≡ None = sym c.in-Some.is ∙ n.0 in cc)
    ]

pub returns-in-None-clause-drawn : goal.returns-in-None-clause-drawn
returns-in-None-clause-drawn c = λ i h named.
    elim (is_chosen (context_for c.args.scope.now) c.args.wanted c.args.words c.variable.result
    (drawable_told c.args.scope.now.info.now c.args.wanted c.requires) c.variable.ensures.local c.variable.ensures.global c.variable.ensures.none i h named) [
      | inl e ↦ absurd (let no : None ≡ Some i = sym c.in-None.is ∙ e in cc)
      | inr n ↦ c.constant.ensures.own n.1 ∙ n.2
    ]

pub returns-in-None-clause-gives : goal.returns-in-None-clause-gives
returns-in-None-clause-gives c = record {
  instruction = c.constant.ensures.instruction;
  types = c.constant.ensures.typed (context_for c.args.scope.now) c.requires;
  plain = constant_plain c.args.wanted c.constant.result c.constant.ensures.row;
}
