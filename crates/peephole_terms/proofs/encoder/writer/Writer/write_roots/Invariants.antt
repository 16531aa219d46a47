use Rattle.std.proofs.Common.{◌≡◌, [], take, Ok}
use Rattle.peephole_terms.specs.EncoderSteps.{root_steps}
use Rattle.peephole_terms.specs.Expansion.{term_in}
use Rattle.peephole_terms.specs.Writer.{Takes, IsSame}
use Rattle.peephole_terms.proofs.encoder.writer.Writer.write_roots.Given as goal

abbrev pub invariant-loop-index : goal.invariant-loop-index
invariant-loop-index g l = record {
  taken : Takes g.R.Rng.stream (root_steps l.insertion_point (term_in l.expr) l.entries (take l.index l.parents)) l.fn.self l.self (Ok tt);
  same : IsSame l.fn.self l.self;
  rests : l.walk ≡ [];
}
