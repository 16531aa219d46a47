use Rattle.std.proofs.Common.{inr}
use Rattle.wasm_sections.proofs.CountedLemmas.{counted, short, fails_counted}
use Rattle.wasm_sections.proofs.sections.contents_of.Goals as goal

pub returns-in-Some-clause-found : goal.returns-in-Some-clause-found
returns-in-Some-clause-found c = counted _ _ _ _ _ c.in-Ok.ensures c.in-Some.ensures.cases

pub returns-in-None-clause-fault : goal.returns-in-None-clause-fault
returns-in-None-clause-fault c = inr (short _ _ _ c.in-Ok.ensures c.in-None.ensures.cases)

pub returns-in-Err-clause-fault : goal.returns-in-Err-clause-fault
returns-in-Err-clause-fault c = rw c.kind.ensures (fails_counted _ _ c.in-Err.ensures)
