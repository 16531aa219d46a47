use Rattle.peephole_payloads.specs.laws.OrderLemmas.{f32s_in_order, f64s_in_order}
use Rattle.peephole_payloads.proofs.laws.floats_are_ordered.Goals as goal

pub returns : goal.returns
returns c = record {
  f32 = f32s_in_order;
  f64 = f64s_in_order;
}
