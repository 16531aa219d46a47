use Rattle.wasm_equivalence.proofs.hosts.ValidModuleLemmas.{does_one, do_themselves}
use Rattle.wasm_equivalence.proofs.laws.one_function_is_rewritten.Goals as goal

pub returns-clause-one : goal.returns-clause-one
returns-clause-one c = does_one

pub returns-clause-none : goal.returns-clause-none
returns-clause-none c = do_themselves
