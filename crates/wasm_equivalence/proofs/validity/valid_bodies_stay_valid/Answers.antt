use Rattle.wasm_equivalence.proofs.validation.ValidLemmas.{stays_valid, targets_stay, deeds_stay}
use Rattle.wasm_equivalence.proofs.validity.valid_bodies_stay_valid.Goals as goal

pub returns-clause-valid : goal.returns-clause-valid
returns-clause-valid c = stays_valid

pub returns-clause-targets : goal.returns-clause-targets
returns-clause-targets c = targets_stay

pub returns-clause-deeds : goal.returns-clause-deeds
returns-clause-deeds c = deeds_stay
