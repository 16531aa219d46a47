use Rattle.wasm_sections.proofs.CountedLemmas.{linkable, nameless}
use Rattle.wasm_sections.proofs.linking.is_linkable.Goals as goal

pub returns-in-Some : goal.returns-in-Some
returns-in-Some c = linkable _ _ _ c.in-Some.ensures.found c.is_linking_name.ensures

pub returns-in-None : goal.returns-in-None
returns-in-None c = nameless _ c.in-None.ensures.none
