use Rattle.wasm_sections.proofs.CustomLemmas.{next_section, has_section, only_section, no_section}
use Rattle.wasm_sections.proofs.custom.name_section.Goals as goal

pub returns-in-Some-clause-found : goal.returns-in-Some-clause-found
returns-in-Some-clause-found c = has_section _ _ _ _ _ c.loop-section-test.true c.loop-section.invariant c.in-Some.ensures.found

pub returns-in-Some-clause-only : goal.returns-in-Some-clause-only
returns-in-Some-clause-only c rest has =
    only_section _ _ rest _ _ _ c.loop-section-test.true c.loop-section.invariant c.in-Some.ensures.found has

pub loop-section-preserved : goal.loop-section-preserved
loop-section-preserved c = next_section _ _ _ _ c.loop-section-test.true c.loop-section.invariant (rw c.in_default.is at c.subsections_of.ensures.none)

pub returns-clause-only : goal.returns-clause-only
returns-clause-only c rest has = no_section _ rest _ _ c.loop-section-test.false c.loop-section.invariant has
