use Rattle.body_splices.proofs.LawLemmas.{operators_are}
use Rattle.body_splices.proofs.laws.spliced_operators_are.Goals as goal

pub returns : goal.returns
returns c = operators_are
