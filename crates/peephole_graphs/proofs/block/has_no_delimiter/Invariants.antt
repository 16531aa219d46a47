use Rattle.peephole_graphs.specs.Block.{HasNoDelimiter}
use Rattle.peephole_graphs.proofs.block.has_no_delimiter.Given as goal

abbrev pub invariant-loop-index : goal.invariant-loop-index
invariant-loop-index l = HasNoDelimiter l.operators l.start l.index
