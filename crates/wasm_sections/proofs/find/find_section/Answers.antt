use Rattle.std.proofs.Common.{rules, sym}
use denote.Enum.Bare.{same_true, same_false}
use Rattle.wasm_sections.specs.contracts.id.SectionId.{the_type}
use Rattle.wasm_sections.proofs.FindLemmas.{first_with, lack_next}
use Rattle.wasm_sections.proofs.find.find_section.Goals as goal

pub returns-then-eq-clause-found : goal.returns-then-eq-clause-found
returns-then-eq-clause-found c = first_with _ _ _ _ c.loop-section-test.true c.loop-section.invariant
    (same_true the_type (search rules) _ _ (sym c.if-eq.ensures))

pub loop-section-preserved : goal.loop-section-preserved
loop-section-preserved c = lack_next _ _ _ _ c.loop-section-test.true c.loop-section.invariant
    (same_false the_type _ _ (sym c.if-eq.ensures))
