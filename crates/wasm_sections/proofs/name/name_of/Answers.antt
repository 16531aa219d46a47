use Rattle.wasm_sections.proofs.CountedLemmas.{counted, short, named, short_name, failing_name}
use Rattle.wasm_sections.proofs.name.name_of.Goals as goal

pub returns-in-Some-clause-found : goal.returns-in-Some-clause-found
returns-in-Some-clause-found c = named _ _ _ (counted _ _ _ _ _ c.in-Ok.ensures c.in-Some.ensures.cases)

pub returns-in-None-clause-none : goal.returns-in-None-clause-none
returns-in-None-clause-none c = short_name _ (short _ _ _ c.in-Ok.ensures c.in-None.ensures.cases)

pub returns-in-Err-clause-none : goal.returns-in-Err-clause-none
returns-in-Err-clause-none c = failing_name _ _ c.in-Err.ensures
