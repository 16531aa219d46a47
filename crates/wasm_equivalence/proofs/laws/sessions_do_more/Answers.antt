use Rattle.wasm_equivalence.proofs.modules.ModuleLemmas.{running_sound}
use Rattle.wasm_equivalence.proofs.modules.SessionLemmas.{sessions}
use Rattle.wasm_equivalence.proofs.hosts.HarnessLemmas.{harnesses}
use Rattle.wasm_equivalence.proofs.laws.sessions_do_more.Goals as goal

pub returns-clause-calls : goal.returns-clause-calls
returns-clause-calls c = sessions

pub returns-clause-harnesses : goal.returns-clause-harnesses
returns-clause-harnesses c = harnesses

pub returns-clause-sound : goal.returns-clause-sound
returns-clause-sound c = running_sound
