use Rattle.peephole_payloads.specs.laws.LawLemmas.{f32_back, f64_back, ref_type_back, val_type_back}
use Rattle.peephole_payloads.specs.laws.NumberBack.{signed_in_range_back}
use Rattle.peephole_payloads.specs.laws.ReadBackLemmas.{unsigned_back}
use Rattle.peephole_payloads.proofs.laws.number_texts_read_back.Goals as goal

pub returns : goal.returns
returns c = record {
  unsigned = unsigned_back;
  signed = signed_in_range_back;
  f32 = f32_back;
  f64 = f64_back;
  ref_type = ref_type_back;
  val_type = val_type_back;
}
