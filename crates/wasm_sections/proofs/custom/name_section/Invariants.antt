use Rattle.std.proofs.Common.{drop}
use Rattle.wasm_sections.proofs.CustomLemmas.{SameFirst}
use Rattle.wasm_sections.proofs.custom.name_section.Given as goal

abbrev pub invariant-loop-section : goal.invariant-loop-section
invariant-loop-section l = SameFirst l.bytes (drop l.section-index l.sections) l.sections
