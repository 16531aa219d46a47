use Rattle.std.proofs.Common.{take}
use Rattle.wasm_sections.specs.Find.{LackId}
use Rattle.wasm_sections.proofs.find.find_section.Given as goal

abbrev pub invariant-loop-section : goal.invariant-loop-section
invariant-loop-section l = LackId (take l.section-index l.sections) l.id
