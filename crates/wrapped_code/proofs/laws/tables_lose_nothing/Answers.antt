use Rattle.wrapped_code.proofs.PlaceOfLemmas.{lose_nothing}
use Rattle.wrapped_code.proofs.laws.tables_lose_nothing.Goals as goal

pub returns : goal.returns
returns c = lose_nothing
