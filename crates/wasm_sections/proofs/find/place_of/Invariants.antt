use Rattle.std.proofs.Common.{◌≡◌, drop}
use Rattle.wasm_sections.specs.Reader.{place_from}
use Rattle.wasm_sections.proofs.find.place_of.Given as goal

abbrev pub invariant-loop-section : goal.invariant-loop-section
invariant-loop-section l = place_from l.place l.id (drop l.section-index l.sections) ≡ place_from 8 l.id l.sections
