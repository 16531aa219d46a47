use Rattle.peephole_terms.proofs.MeaningRows.{unfolds_add_up}
use Rattle.peephole_terms.proofs.laws.unfolds_add_up.Goals as goal

pub returns : goal.returns
returns c = unfolds_add_up
