use Rattle.peephole_lang.proofs.NodeLemmas.{fits_again}
use Rattle.peephole_lang.proofs.laws.is_of_its_variant.Goals as goal

pub returns : goal.returns
returns c = fits_again
