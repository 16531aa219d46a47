use Rattle.body_splices.proofs.LawLemmas.{own_stay}
use Rattle.body_splices.proofs.laws.own_bytes_stay.Goals as goal

pub returns : goal.returns
returns c = own_stay c.one_list.ensures
