use Rattle.wasm_sections.proofs.CustomLemmas.{no_name_section}
use Rattle.wasm_sections.proofs.custom.subsections_of.Goals as goal

pub returns-then-eq-clause-none : goal.returns-then-eq-clause-none
returns-then-eq-clause-none c = no_name_section _ _ _ c.past_name.ensures.none
