use Rattle.wasm_sections.proofs.DebugLemmas.{names_places, nameless}
use Rattle.wasm_sections.proofs.debug.is_debug.Goals as goal

pub returns-in-Some : goal.returns-in-Some
returns-in-Some c = names_places _ _ _ c.in-Some.ensures.found c.is_debug_name.ensures

pub returns-in-None : goal.returns-in-None
returns-in-None c = nameless _ c.in-None.ensures.none
