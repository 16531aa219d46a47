use Rattle.peephole_lang.specs.laws.MadeLemmas.{fits_made}
use Rattle.peephole_lang.proofs.laws.each_variant_is_made.Goals as goal

pub returns : goal.returns
returns c = λ place count p. fits_made place p count
