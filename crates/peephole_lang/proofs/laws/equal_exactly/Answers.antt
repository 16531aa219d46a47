use Rattle.peephole_lang.proofs.NodeLemmas.{equal_is_same}
use Rattle.peephole_lang.proofs.laws.equal_exactly.Goals as goal

pub returns : goal.returns
returns c = equal_is_same
