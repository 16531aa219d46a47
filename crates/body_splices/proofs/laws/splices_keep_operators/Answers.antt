use Rattle.body_splices.proofs.LawLemmas.{operators_kept, structure_kept}
use Rattle.body_splices.proofs.laws.splices_keep_operators.Goals as goal

pub returns : goal.returns
returns c = record { operators = operators_kept; structure = structure_kept }
