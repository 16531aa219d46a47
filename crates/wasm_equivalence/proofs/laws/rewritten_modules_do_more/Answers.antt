use Rattle.wasm_equivalence.proofs.modules.ModuleLemmas.{do_more, follow}
use Rattle.wasm_equivalence.proofs.laws.rewritten_modules_do_more.Goals as goal

pub returns-clause-rewritten : goal.returns-clause-rewritten
returns-clause-rewritten c = do_more

pub returns-clause-follow : goal.returns-clause-follow
returns-clause-follow c = follow
