use Rattle.std.proofs.Common.{◌+◌}
use Rattle.wasm_sections.proofs.NameLemmas.{subsection_found, subsection_only, no_subsection, next_subsection, shorter}
use Rattle.wasm_sections.proofs.names.subsection_with.Goals as goal

pub returns-then-found-id-clause-found : goal.returns-then-found-id-clause-found
returns-then-found-id-clause-found c = subsection_found _ _ _ _ _ _ _ c.loop-found.invariant.1 c.in-Ok.ensures c.if-found-id.true

pub returns-then-found-id-clause-only : goal.returns-then-found-id-clause-only
returns-then-found-id-clause-only c contents has =
    subsection_only _ _ _ _ contents _ _ _ c.loop-found.invariant.1 c.in-Ok.ensures c.if-found-id.true has

pub loop-found-smaller : goal.loop-found-smaller
loop-found-smaller c = shorter _ _ _ _ c.in-Ok.ensures

pub loop-found-preserved : goal.loop-found-preserved
loop-found-preserved c = (
  c.loop-found.invariant.0 + 1,
  next_subsection _ _ _ _ _ _ _ c.loop-found.invariant.1 c.in-Ok.ensures c.if-found-id.false,
)

pub returns-clause-only : goal.returns-clause-only
returns-clause-only c contents has = no_subsection _ _ contents _ _ _ c.loop-found.invariant.1 c.in_default.ensures has
