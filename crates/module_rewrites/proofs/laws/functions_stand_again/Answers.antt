-- By the one reading of a function.
use Rattle.module_rewrites.proofs.StandAgainLemmas.{stand_again}
use Rattle.module_rewrites.proofs.laws.functions_stand_again.Goals as goal

pub returns : goal.returns
returns c = stand_again (record { locals = c.one_list.ensures.locals; operators = c.one_list-2.ensures })
