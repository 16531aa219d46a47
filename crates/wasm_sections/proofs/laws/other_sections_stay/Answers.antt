use Rattle.wasm_sections.proofs.OneDebug.{still_none, still_first}
use Rattle.wasm_sections.proofs.laws.other_sections_stay.Goals as goal

pub returns-clause-none : goal.returns-clause-none
returns-clause-none c bytes new ss left id w m lack = still_none bytes new ss left id w m lack

pub returns-clause-first : goal.returns-clause-first
returns-clause-first c bytes new contents ss left id w m other h = still_first bytes new contents ss left id w m other h
