use Rattle.wasm_sections.specs.lemmas.ChangeLemmas.{place_within, place_in_order}
use Rattle.wasm_sections.proofs.laws.places_are_in_order.Goals as goal

pub returns-clause-within : goal.returns-clause-within
returns-clause-within c bytes ss id place m p = place_within bytes ss id place m p

pub returns-clause-order : goal.returns-clause-order
returns-clause-order c bytes ss id place m p k d lt = place_in_order bytes ss id place m p k d lt
