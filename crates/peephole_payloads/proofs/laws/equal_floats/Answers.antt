use Rattle.peephole_payloads.specs.laws.Equality.{f32s_equal, f64s_equal}
use Rattle.peephole_payloads.proofs.laws.equal_floats.Goals as goal

pub returns : goal.returns
returns c = record { f32 = f32s_equal; f64 = f64s_equal }
