use Rattle.wasm_sections.specs.lemmas.SectionLemmas.{accepted}
use Rattle.wasm_sections.proofs.sections.next_section.Goals as goal

pub returns-clause-found : goal.returns-clause-found
returns-clause-found c = accepted _ _ _ _ _ _ _ c.in_ok-id.ensures.found c.in_ok-contents.ensures.found c.in_ok-check_allowed.ensures.ok
