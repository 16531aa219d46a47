use Rattle.wasm_equivalence.proofs.hosts.ValidModuleLemmas.{valid_more, valid_sessions, valid_harnesses, valid_sound, valid_stay}
use Rattle.wasm_equivalence.proofs.laws.valid_modules_do_more.Goals as goal

pub returns-clause-more : goal.returns-clause-more
returns-clause-more c = valid_more

pub returns-clause-sessions : goal.returns-clause-sessions
returns-clause-sessions c = valid_sessions

pub returns-clause-harnesses : goal.returns-clause-harnesses
returns-clause-harnesses c = valid_harnesses

pub returns-clause-valid : goal.returns-clause-valid
returns-clause-valid c = valid_stay

pub returns-clause-sound : goal.returns-clause-sound
returns-clause-sound c = valid_sound
