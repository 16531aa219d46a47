-- The blocks before the operators so far.
use Rattle.body_rewrites.specs.Blocks.{AreInnermost, IsNest}
use Rattle.body_rewrites.proofs.BlockLemmas.{AreMost}
use Rattle.body_rewrites.proofs.blocks.blocks_of.Given as goal

abbrev pub invariant-loop-at : goal.invariant-loop-at
invariant-loop-at l = record {
  noted : AreInnermost l.operators l.at l.innermost.items;
  nest : IsNest l.operators l.at l.nest;
  most : AreMost l.operators l.at l.deepest;
}
