use Rattle.peephole_terms.proofs.OwnBytesLemmas.{own_stay}
use Rattle.peephole_terms.proofs.laws.own_bytes_stay.Goals as goal

pub returns : goal.returns
returns c = own_stay c.one_list.ensures
