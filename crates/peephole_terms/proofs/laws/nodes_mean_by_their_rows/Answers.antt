use Rattle.peephole_terms.proofs.InstructionNodes.{mean_by_their_rows}
use Rattle.peephole_terms.proofs.laws.nodes_mean_by_their_rows.Goals as goal

pub returns : goal.returns
returns c = mean_by_their_rows
