use Rattle.wasm_sections.proofs.NameLemmas.{name_found, name_only, no_name, all_others, next_name}
use Rattle.wasm_sections.proofs.names.name_among.Goals as goal

pub returns-then-function-index-clause-found : goal.returns-then-function-index-clause-found
returns-then-function-index-clause-found c =
    name_found _ _ _ _ _ _ _ _ c.loop.invariant c.loop-test.true c.in-Ok.ensures c.if-function-index.true

pub returns-then-function-index-clause-only : goal.returns-then-function-index-clause-only
returns-then-function-index-clause-only c name has =
    name_only _ _ _ _ name _ _ _ _ c.loop.invariant c.in-Ok.ensures c.if-function-index.true has

pub returns-in-Err-clause-only : goal.returns-in-Err-clause-only
returns-in-Err-clause-only c name has = no_name _ _ name _ _ _ _ c.loop.invariant c.in-Err.ensures has

pub loop-preserved : goal.loop-preserved
loop-preserved c = next_name _ _ _ _ _ _ _ c.loop.invariant c.in-Ok.ensures c.if-function-index.false

pub returns-clause-only : goal.returns-clause-only
returns-clause-only c name has = all_others _ _ name _ _ _ c.loop.invariant c.loop-test.false has
