-- The changes stand in the order of their numbers.
use Rattle.std.proofs.Common.{refl}
use Rattle.teddertempo_c.proofs.PlacesLemmas.{number_is}
use Rattle.teddertempo_c.proofs.place.at_of.Goals as goal

pub returns : goal.returns
returns c = record { change = number_is c.args.place.now.change _ c.requires; function = refl; first = refl; end = c.end_of.ensures }
