use Rattle.wasm_equivalence.proofs.hosts.ValidModuleLemmas.{pieces_do}
use Rattle.wasm_equivalence.proofs.laws.pieces_do_as_before.Goals as goal

pub returns : goal.returns
returns c = pieces_do
