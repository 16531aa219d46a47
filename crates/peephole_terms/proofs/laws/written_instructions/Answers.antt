use Rattle.peephole_terms.proofs.RowLemmas.{opcodes}
use Rattle.peephole_terms.proofs.laws.written_instructions.Goals as goal

pub returns : goal.returns
returns c = opcodes
