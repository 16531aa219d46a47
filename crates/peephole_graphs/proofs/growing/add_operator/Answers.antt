use Rattle.std.proofs.Common.{◌≡◌, ℕ, ◌-◌, ◌<◌, ◌++◌, ◌∷◌, [], List, refl, ap, ap₂, ◌∙◌, replicate, length, arith}
use Rattle.std.proofs.lemmas.Grind.{common_steps}
use Rattle.std.proofs.lemmas.List.Elements.{All-drop}
use Rattle.std.proofs.lemmas.List.Sums.{sum_by-take-drop}
use Rattle.peephole_graphs.specs.Measures.{size_kept}
use Rattle.peephole_graphs.specs.Growing.{lacks, missing_subtree, own_subtree}
use Rattle.peephole_graphs.specs.declared.subtree.Subtree.{Subtree}
use Rattle.peephole_graphs.specs.declared.growing.Growing.{Growing}
use Rattle.peephole_graphs.proofs.growing.add_operator.Goals as goal

subtrees_are : (operands color : ℕ) (g : Growing) (old a b : List Subtree) (missing more : ℕ) (x : Subtree) → a ≡ b ++ x ∷ [] →
    b ≡ old ++ replicate missing missing_subtree → x ≡ own_subtree operands missing color g → missing ≡ more → a ≡ (old ++ replicate more missing_subtree) ++
    own_subtree operands more color g ∷ []
subtrees_are operands color g old a b missing more x e f h m =
    e ∙ (ap₂ (λ p q. p ++ q ∷ []) f h ∙ ap (λ k. (old ++ replicate k missing_subtree) ++ own_subtree operands k color g ∷ []) m)

pub measure-subtree-requires-clause-below : goal.measure-subtree-requires-clause-below
measure-subtree-requires-clause-below c = All-drop (λ i. i < length c.args.growing.now.entries.items)
    (length c.args.growing.now.stack.items - c.args.shape.operands) c.args.growing.now.stack.items c.requires.consistent.stack

pub measure-subtree-requires-clause-room : goal.measure-subtree-requires-clause-room
measure-subtree-requires-clause-room c =
    let e = sum_by-take-drop (size_kept c.args.growing.now.subtrees.items) c.args.growing.now.stack.items
    (length c.args.growing.now.stack.items - c.args.shape.operands) in
    let room = c.requires.consistent.room in
    grind (arith, common_steps)

pub returns-clause-added : goal.returns-clause-added
returns-clause-added c = record {
  own = record { operator = c.in_ok-operator.operator; color = c.args.growing.now.color; operator_idx = c.args.operator_idx };
  own_instr = c.in_ok-operator.ensures.node.0;
  own_children = grind (arith, common_steps);
  own_color = refl;
  own_operator = refl;
  entries = grind (arith, common_steps);
  parents = grind (arith, common_steps);
  subtrees = subtrees_are c.args.shape.operands c.args.growing.now.color c.args.growing.now c.args.growing.now.subtrees.items
      c.if-has_result.growing.subtrees.items c.add_missing.new.growing.subtrees.items c.in_ok-own.missing
      (lacks c.args.shape.operands c.args.growing.now) c.measure-subtree.result
      (grind (arith, common_steps)) (grind (arith, common_steps)) c.measure-subtree.ensures (grind (arith, common_steps));
  stack = grind (arith, common_steps);
  first = grind (arith, common_steps);
  named = grind (arith, common_steps);
}
