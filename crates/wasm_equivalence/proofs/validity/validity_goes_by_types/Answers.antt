use Rattle.wasm_equivalence.proofs.validation.RowChecks.{known_checks}
use Rattle.wasm_equivalence.proofs.validation.ValidLemmas.{more_globals, follows}
use Rattle.wasm_equivalence.proofs.validity.validity_goes_by_types.Goals as goal

pub returns-clause-known : goal.returns-clause-known
returns-clause-known c = known_checks

pub returns-clause-more : goal.returns-clause-more
returns-clause-more c = more_globals

pub returns-clause-follow : goal.returns-clause-follow
returns-clause-follow c = follows
