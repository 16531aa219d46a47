use Rattle.peephole_lang.specs.laws.VariantLemmas.{one_variant}
use Rattle.peephole_lang.proofs.laws.one_variant_a_text.Goals as goal

pub returns : goal.returns
returns c = one_variant
