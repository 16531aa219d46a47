use Rattle.wasm_sections.proofs.OneDebug.{one_without, none_left, unchanged}
use Rattle.wasm_sections.proofs.laws.debug_sections_are_gone.Goals as goal

pub returns-clause-gone : goal.returns-clause-gone
returns-clause-gone c bytes new ss left w m k d lt = none_left bytes new ss left w m k d lt

pub returns-clause-unchanged : goal.returns-clause-unchanged
returns-clause-unchanged c bytes new ss m none w = unchanged bytes new ss m none w

pub returns-clause-one : goal.returns-clause-one
returns-clause-one c bytes one other ss p q = one_without bytes one other ss p q
