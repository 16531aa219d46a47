use Rattle.wasm_sections.proofs.NameReaderLemmas.{name_read, name_refused}
use Rattle.wasm_sections.proofs.name_reading.name_of.Goals as goal

pub returns-in-Ok : goal.returns-in-Ok
returns-in-Ok c = rw c.in-Ok.ensures.cases.0 (name_read _ _ _ c.in_ok-name.ensures c.in-Ok.ensures.cases.1)

pub returns-in-Err : goal.returns-in-Err
returns-in-Err c = name_refused _ _ _ c.in_ok-name.ensures c.in-Err.ensures.cases.0
