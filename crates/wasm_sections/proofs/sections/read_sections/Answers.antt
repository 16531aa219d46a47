use Rattle.wasm_sections.proofs.OneModule.{only}
use Rattle.wasm_sections.proofs.sections.read_sections.Goals as goal

pub returns-clause-only : goal.returns-clause-only
returns-clause-only c xs p = only _ c.sections_of.result xs c.sections_of.ensures.found c.sections_of.ensures.fault p
