use Rattle.std.proofs.Common.{Err, ap, refl, ◌∙◌, ◌++◌, List, arith}
use Rattle.std.proofs.lemmas.Grind.{common_steps}
use Rattle.std.proofs.lemmas.Result.{err_from_is_err_and}
use Rattle.peephole_lang.specs.Term.{numbers_of}
use Rattle.peephole_graphs.specs.declared.postfix.Turn.{Turn}
use Rattle.peephole_graphs.specs.Postfix.{turns_of}
use Rattle.peephole_terms.specs.Writer.{writing_in}
use Rattle.peephole_terms.proofs.WalkLemmas.{walk_of, start, child_inside, own_inside, down, own_done, own_refused, leaf_tree, leaf_done}
use Rattle.peephole_terms.proofs.WalkLemmas.{leaf_refused, no_ids, passed_on, kids_in, kept_more, arrived}
use Rattle.peephole_terms.proofs.WriterLemmas.{goes_on, same_more}
use Rattle.peephole_terms.proofs.encoder.writer.Writer.write_tree_by.Goals as goal

pub loop-turn-init : goal.loop-turn-init
loop-turn-init g c = record {
  walk = start {k = walk_of g.N.Holds.held c.args.nodes.now c.args.self.now.globals c.args.root (writing_in g.R.Rng.stream c.args.self.now)}
      c.children_to_write-children.result.now c.requires.below c.requires.root
      (record { is = c.index-nodes-root.is; held_is = c.node-node.ensures }) c.children_to_write-children.ensures
      (c.in_ok-enter.ensures.entered
      ∙ ap (λ (turns : List Turn). turns_of c.args.root (numbers_of c.children_to_write-children.result.now) ++ turns) c.requires.rests);
  kept = grind (arith, common_steps);
  same = record { globals = refl; sink = refl; requests = refl; rng = refl };
}

pub returns-then-is_empty-clause-taken : goal.returns-then-is_empty-clause-taken
returns-then-is_empty-clause-taken g c =
    rw (leaf_tree {k = walk_of g.N.Holds.held c.args.nodes.now c.args.self.now.globals c.args.root (writing_in g.R.Rng.stream c.args.self.now)}
    c.requires.root c.requires.below (record { is = c.index-nodes-root.is; held_is = c.node-node.ensures })
    (no_ids c.children_to_write-children.result.now c.is_empty.result c.children_to_write-children.ensures c.is_empty.ensures c.if-is_empty.true))
    c.write_own.ensures.taken

pub write_own-requires-clause-below : goal.write_own-requires-clause-below
write_own-requires-clause-below g c =
    kids_in {k = walk_of g.N.Holds.held c.args.nodes.now c.args.self.now.globals c.args.root (writing_in g.R.Rng.stream c.args.self.now)}
    c.requires.root c.requires.below (record { is = c.index-nodes-root.is; held_is = c.node-node.ensures })

pub bounds-nodes-index : goal.bounds-nodes-index
bounds-nodes-index g c = child_inside c.loop-turn.invariant.walk (rw c.in-Child.is at c.in-Some.ensures)

pub offset_bounds-nodes-index : goal.offset_bounds-nodes-index
offset_bounds-nodes-index g c = let there = child_inside c.loop-turn.invariant.walk (rw c.in-Child.is at c.in-Some.ensures) in omega arith

pub bounds-nodes-index-in-Own : goal.bounds-nodes-index-in-Own
bounds-nodes-index-in-Own g c = own_inside c.loop-turn.invariant.walk (rw c.in-Own.is at c.in-Some.ensures)

pub offset_bounds-nodes-index-in-Own : goal.offset_bounds-nodes-index-in-Own
offset_bounds-nodes-index-in-Own g c = let there = own_inside c.loop-turn.invariant.walk (rw c.in-Own.is at c.in-Some.ensures) in omega arith

pub write_own-requires-in-Own-clause-below : goal.write_own-requires-in-Own-clause-below
write_own-requires-in-Own-clause-below g c =
    kids_in {k = walk_of g.N.Holds.held c.args.nodes.now c.args.self.now.globals c.args.root (writing_in g.R.Rng.stream c.args.self.now)}
    (own_inside c.loop-turn.invariant.walk (rw c.in-Own.is at c.in-Some.ensures)) c.requires.below
    (record { is = c.index-nodes-index-in-Own.is; held_is = c.node-node-in-Own.ensures })

pub write_own-requires-then-is_empty-2-clause-below : goal.write_own-requires-then-is_empty-2-clause-below
write_own-requires-then-is_empty-2-clause-below g c =
    kids_in {k = walk_of g.N.Holds.held c.args.nodes.now c.args.self.now.globals c.args.root (writing_in g.R.Rng.stream c.args.self.now)}
    (child_inside c.loop-turn.invariant.walk (rw c.in-Child.is at c.in-Some.ensures)) c.requires.below
    (record { is = c.index-nodes-index.is; held_is = c.node-node-in-Child.ensures })

pub loop-turn-preserved-in-Continue-branch-2 : goal.loop-turn-preserved-in-Continue-branch-2
loop-turn-preserved-in-Continue-branch-2 g c = record {
  walk = (leaf_done c.loop-turn.invariant.walk (rw c.in-Child.is at c.in-Some.ensures)
      (record { is = c.index-nodes-index.is; held_is = c.node-node-in-Child.ensures })
      (no_ids c.children_to_write-children-in-Child.result.now c.is_empty-in-Child.result c.children_to_write-children-in-Child.ensures
      c.is_empty-in-Child.ensures c.if-is_empty-2.true)
      (goes_on c.loop-turn.invariant.same.globals c.in_ok-write_own-in-Child.ensures.taken)).0;
  kept = kept_more _ _ _ c.loop-turn.invariant.kept c.in_ok-write_own-in-Child.ensures.taken.kept;
  same = same_more c.loop-turn.invariant.same c.in_ok-write_own-in-Child.ensures.same;
}

pub loop-turn-smaller-in-Continue-branch-2 : goal.loop-turn-smaller-in-Continue-branch-2
loop-turn-smaller-in-Continue-branch-2 g c =
    (leaf_done c.loop-turn.invariant.walk (rw c.in-Child.is at c.in-Some.ensures)
    (record { is = c.index-nodes-index.is; held_is = c.node-node-in-Child.ensures })
    (no_ids c.children_to_write-children-in-Child.result.now c.is_empty-in-Child.result c.children_to_write-children-in-Child.ensures
    c.is_empty-in-Child.ensures c.if-is_empty-2.true)
    (goes_on c.loop-turn.invariant.same.globals c.in_ok-write_own-in-Child.ensures.taken)).1

pub returns-in_err-write_own-in-Child-clause-taken : goal.returns-in_err-write_own-in-Child-clause-taken
returns-in_err-write_own-in-Child-clause-taken g c =
    let result = c.from_residual-in_err-write_own-in-Child.result in
    let p = err_from_is_err_and result c.from_residual-in_err-write_own-in-Child.ensures.1 in
    passed_on result c.in_err-write_own-in-Child.field-0.0 (p.1 ∙ ap (λ x. Err x) p.2)
    (leaf_refused c.loop-turn.invariant.walk (rw c.in-Child.is at c.in-Some.ensures)
    (record { is = c.index-nodes-index.is; held_is = c.node-node-in-Child.ensures })
    (no_ids c.children_to_write-children-in-Child.result.now c.is_empty-in-Child.result c.children_to_write-children-in-Child.ensures
    c.is_empty-in-Child.ensures c.if-is_empty-2.true) c.in_err-write_own-in-Child.field-0.0
    (goes_on c.loop-turn.invariant.same.globals c.in_err-write_own-in-Child.ensures.taken).err)
    (kept_more _ _ _ c.loop-turn.invariant.kept c.in_err-write_own-in-Child.ensures.taken.kept)

pub loop-turn-preserved-in-Continue-branch-3 : goal.loop-turn-preserved-in-Continue-branch-3
loop-turn-preserved-in-Continue-branch-3 g c = record {
  walk = (down c.loop-turn.invariant.walk c.children_to_write-children-in-Child.result.now (rw c.in-Child.is at c.in-Some.ensures)
      (record { is = c.index-nodes-index.is; held_is = c.node-node-in-Child.ensures })
      c.children_to_write-children-in-Child.ensures c.in_ok-enter-in-Child.ensures.entered).0;
  kept = c.loop-turn.invariant.kept;
  same = c.loop-turn.invariant.same;
}

pub loop-turn-smaller-in-Continue-branch-3 : goal.loop-turn-smaller-in-Continue-branch-3
loop-turn-smaller-in-Continue-branch-3 g c =
    (down c.loop-turn.invariant.walk c.children_to_write-children-in-Child.result.now (rw c.in-Child.is at c.in-Some.ensures)
    (record { is = c.index-nodes-index.is; held_is = c.node-node-in-Child.ensures })
    c.children_to_write-children-in-Child.ensures c.in_ok-enter-in-Child.ensures.entered).1

pub loop-turn-preserved : goal.loop-turn-preserved
loop-turn-preserved g c = record {
  walk = (own_done c.loop-turn.invariant.walk (rw c.in-Own.is at c.in-Some.ensures)
      (record { is = c.index-nodes-index-in-Own.is; held_is = c.node-node-in-Own.ensures })
      (goes_on c.loop-turn.invariant.same.globals c.in_ok-write_own-in-Own.ensures.taken)).0;
  kept = kept_more _ _ _ c.loop-turn.invariant.kept c.in_ok-write_own-in-Own.ensures.taken.kept;
  same = same_more c.loop-turn.invariant.same c.in_ok-write_own-in-Own.ensures.same;
}

pub returns-in_err-write_own-in-Own-clause-taken : goal.returns-in_err-write_own-in-Own-clause-taken
returns-in_err-write_own-in-Own-clause-taken g c =
    let result = c.from_residual-in_err-write_own-in-Own.result in
    let p = err_from_is_err_and result c.from_residual-in_err-write_own-in-Own.ensures.1 in
    passed_on result c.in_err-write_own-in-Own.field-0.0 (p.1 ∙ ap (λ x. Err x) p.2)
    (own_refused c.loop-turn.invariant.walk c.in_err-write_own-in-Own.field-0.0 (rw c.in-Own.is at c.in-Some.ensures)
    (record { is = c.index-nodes-index-in-Own.is; held_is = c.node-node-in-Own.ensures })
    (goes_on c.loop-turn.invariant.same.globals c.in_err-write_own-in-Own.ensures.taken).err)
    (kept_more _ _ _ c.loop-turn.invariant.kept c.in_err-write_own-in-Own.ensures.taken.kept)

pub returns-in_err-write_own-in-Own-clause-same : goal.returns-in_err-write_own-in-Own-clause-same
returns-in_err-write_own-in-Own-clause-same g c = same_more c.loop-turn.invariant.same c.in_err-write_own-in-Own.ensures.same

pub returns-clause-taken : goal.returns-clause-taken
returns-clause-taken g c = arrived c.loop-turn.invariant.walk c.in_default.ensures.0 c.loop-turn.invariant.kept
