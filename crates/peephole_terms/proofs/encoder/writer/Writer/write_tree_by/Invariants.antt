use Rattle.std.proofs.Common.{◌≡◌, length, take}
use Rattle.peephole_terms.specs.EncoderSteps.{nodes_in}
use Rattle.peephole_terms.specs.Writer.{writing_in, IsSame}
use Rattle.peephole_terms.proofs.WalkLemmas.{IsUnderway, measure, walk_of}
use Rattle.peephole_terms.proofs.encoder.writer.Writer.write_tree_by.Given as goal

abbrev pub invariant-loop-turn : goal.invariant-loop-turn
invariant-loop-turn g l = record {
  walk : IsUnderway
      (walk_of g.N.Holds.held l.nodes l.fn.self.globals l.root (writing_in g.R.Rng.stream l.fn.self)) l.walk (writing_in g.R.Rng.stream l.self);
  kept : take (length l.fn.self.sink.now) l.self.sink.now ≡ l.fn.self.sink.now;
  same : IsSame l.fn.self l.self;
}

abbrev pub decreases-loop-turn : goal.decreases-loop-turn
decreases-loop-turn g l = measure (nodes_in g.N.Holds.held l.nodes) l.walk
