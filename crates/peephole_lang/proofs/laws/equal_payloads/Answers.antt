use Rattle.peephole_lang.proofs.NodeLemmas.{payloads_equal}
use Rattle.peephole_lang.proofs.laws.equal_payloads.Goals as goal

pub returns : goal.returns
returns c = payloads_equal
