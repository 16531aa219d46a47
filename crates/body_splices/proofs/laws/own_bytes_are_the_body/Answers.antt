use Rattle.body_splices.proofs.BodyLemmas.{own_whole}
use Rattle.body_splices.proofs.laws.own_bytes_are_the_body.Goals as goal

pub returns : goal.returns
returns c = own_whole
