-- By what is read of it.
use Rattle.body_rewrites.specs.Places.{context_of}
use Rattle.body_rewrites.proofs.here.here_at.Goals as goal

pub returns-clause-is : goal.returns-clause-is
returns-clause-is c = record {
  inside = c.requires.inside;
  class_is = c.class_at.ensures.is;
  tree_is = c.has_tree.ensures (context_of c.args.body.now) c.args.body.now.operators.now c.requires.lists.trees;
}
